-- The proof of `ask_block` in src/info.rt.
use Rattle.std.proofs.Common.{sym, subst}
use Rattle.dvd_capture.specs.Works.{marks_of_work, rows_of}
use Rattle.dvd_loop.specs.Streams.{streams}
use Rattle.dvd_loop.specs.UnitCommand.{AreDone}
use Rattle.dvd_commands.specs.Info.{IsAsked}
use Rattle.dvd_commands.proofs.info.Blocks.{passed}
use Rattle.dvd_commands.proofs.info.ask_block.Goals as goal

pub returns-in-Control : goal.returns-in-Control
returns-in-Control g c = λ source report.
    let old = streams source (g.K.Sink.seen c.args.out.now) report in
    let new = streams source (g.K.Sink.seen c.ask_control.new.out) report in
    subst (λ content. AreDone (IsAsked content c.args.entry.now (rows_of c.args.work.now) (marks_of_work c.args.work.now)) old new c.ask_control.result) (sym c.in-Control.is)
    (c.ask_control.ensures source report)

pub returns-in-Zero : goal.returns-in-Zero
returns-in-Zero g c = λ source report.
    passed c.args.entry.now.content c.in-Zero.is c.args.entry.now (rows_of c.args.work.now) (marks_of_work c.args.work.now)
    (streams source (g.K.Sink.seen c.args.out.now) report)
