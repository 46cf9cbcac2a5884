-- The proof of `open` of `UnitCommand` for `Converting` in src/convert.rt.
use Rattle.std.proofs.Common.{[], ◌∷◌, subst, sym}
use Rattle.dvd_ports.specs.Bytes.{Appends}
use Rattle.dvd_capture.specs.Header.{header_bytes}
use Rattle.dvd_loop.specs.Machine.Step.{Write}
use Rattle.dvd_loop.specs.Streams.{streams}
use Rattle.dvd_loop.specs.UnitCommand.{AreSteps}
use Rattle.dvd_loop.specs.declared.ends.LoopEnd.TheVariants.{WriteFault}
use Rattle.dvd_loop.proofs.UnitLemmas.{err_is, step_begun, step_written}
use Rattle.dvd_ports.specs.Whole.{AppendsPrefix}
use Rattle.dvd_commands.proofs.convert.ConvertingUnitCommand.open.Goals as goal

pub returns-in_err-write_whole-clause-opens : goal.returns-in_err-write_whole-clause-opens
returns-in_err-write_whole-clause-opens g c = λ source.
    let bytes = header_bytes c.args.self.now.header in
    let output = g.K.Sink.seen c.args.out.now in
    let new_output = g.K.Sink.seen c.write_whole.new.out in
    let report = g.E.Sink.seen c.args._report.now in
    subst (AreSteps (Write bytes ∷ []) (streams source output report) (streams source new_output report)) (sym (err_is c.from_residual.result WriteFault c.from_residual.ensures.1))
    (step_begun source output new_output report bytes [] (subst (AppendsPrefix output.bytes new_output.bytes) c.to_bytes.ensures c.in_err-write_whole.ensures.begun))

pub returns-clause-opens : goal.returns-clause-opens
returns-clause-opens g c = λ source.
    let bytes = header_bytes c.args.self.now.header in
    let output = g.K.Sink.seen c.args.out.now in
    let new_output = g.K.Sink.seen c.write_whole.new.out in
    step_written source output new_output (g.E.Sink.seen c.args._report.now) bytes (subst (Appends output.bytes new_output.bytes) c.to_bytes.ensures c.in_ok-write_whole.ensures.written)
