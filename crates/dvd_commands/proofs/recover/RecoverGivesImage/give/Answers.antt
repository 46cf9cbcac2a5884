-- The proof of `give` of `GivesImage` for `Recover` in src/recover.rt.
use Rattle.std.proofs.Common.{inr}
use Rattle.dvd_capture.specs.Works.{marks_of_work, rows_of}
use Rattle.dvd_loop.specs.Streams.{streams}
use Rattle.dvd_commands.specs.Inner.Performing.{IsRefusedFor}
use Rattle.dvd_commands.proofs.recover.Blocks.{given, refused, same_work}
use Rattle.dvd_commands.proofs.TwoSteps.{done_as, write_is}
use Rattle.dvd_commands.proofs.recover.RecoverGivesImage.give.Goals as goal

pub returns-in-Ok-clause-done : goal.returns-in-Ok-clause-done
returns-in-Ok-clause-done g c = λ source.
    write_is _ _ _ (given _ _ _ _ _ _ c.in-Ok.ensures.read) _ _ c.write_image.result (c.write_image.ensures source (g.E.Sink.seen c.args.report.now))

pub returns-in-Err-clause-done : goal.returns-in-Err-clause-done
returns-in-Err-clause-done g c = λ source.
    let layout = c.args.block.now.layout.now in
    let entry = c.args.block.now.entry.now in
    let work = c.args.work.now in
    done_as _ _
    (λ steps kind is.
    inr (refused layout c.args.block.now.k entry (rows_of work) (marks_of_work work) _ c.in-Err.cause c.in-Err.ensures.refused steps kind
    (same_work (λ rows marks. IsRefusedFor layout c.args.block.now.k entry rows marks c.in-Err.cause steps kind) work c.read_by.new.work c.read_by.ensures.received c.read_by.ensures.marks is)))
    (streams source (g.K.Sink.seen c.args.out.now) (g.E.Sink.seen c.args.report.now))
    (streams source (g.K.Sink.seen c.refuse_block.new.out) (g.E.Sink.seen c.refuse_block.new.report)) c.refuse_block.result (c.refuse_block.ensures source)
