-- The proof of `ask_control` in src/info.rt.
use Rattle.std.proofs.Common.{◌∙◌, subst}
use Rattle.dvd_ports.specs.Bytes.{Appends}
use Rattle.dvd_ports.specs.Whole.{AppendsPrefix}
use Rattle.dvd_capture.specs.Works.{marks_of_work, rows_of}
use Rattle.dvd_control.specs.Format.{fields_of}
use Rattle.dvd_loop.specs.Streams.{streams}
use Rattle.dvd_loop.specs.declared.ends.LoopEnd.TheVariants.{WriteFault}
use Rattle.dvd_loop.specs.declared.ends.UnitKind.TheVariants.{Last}
use Rattle.dvd_loop.proofs.UnitLemmas.{err_is, write_begun, write_done}
use Rattle.dvd_commands.specs.Info.{format_lines}
use Rattle.dvd_commands.proofs.info.Blocks.{answers, silent}
use Rattle.dvd_commands.proofs.info.ask_control.Goals as goal

pub returns-in_default : goal.returns-in_default
returns-in_default g c = λ source report.
    silent c.args.entry.now (rows_of c.args.work.now) (marks_of_work c.args.work.now) (streams source (g.K.Sink.seen c.args.out.now) report)
    (c.format_in.ensures.none c.in_default.is)

pub returns-in_err-write_whole : goal.returns-in_err-write_whole
returns-in_err-write_whole g c = λ source report.
    let format = fields_of c.in-Some.format in
    let output = g.K.Sink.seen c.args.out.now in
    let new_output = g.K.Sink.seen c.write_whole.new.out in
    write_begun _ (format_lines format) Last (answers c.args.entry.now (rows_of c.args.work.now) (marks_of_work c.args.work.now) format c.in-Some.ensures.format)
    source output new_output report c.from_residual.result (err_is c.from_residual.result WriteFault c.from_residual.ensures.1)
    (subst (AppendsPrefix output.bytes new_output.bytes) (c.as_slice.ensures.bytes ∙ c.format_lines.ensures) c.in_err-write_whole.ensures.begun) c.in_err-write_whole.ensures.cause.failed

pub returns : goal.returns
returns g c = λ source report.
    let format = fields_of c.in-Some.format in
    let output = g.K.Sink.seen c.args.out.now in
    let new_output = g.K.Sink.seen c.write_whole.new.out in
    write_done _ (format_lines format) Last (answers c.args.entry.now (rows_of c.args.work.now) (marks_of_work c.args.work.now) format c.in-Some.ensures.format)
    source output new_output report
    (subst (Appends output.bytes new_output.bytes) (c.as_slice.ensures.bytes ∙ c.format_lines.ensures) c.in_ok-write_whole.ensures.written) c.in_ok-write_whole.ensures.cause.steady
