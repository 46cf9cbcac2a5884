-- The proof of `give` of `GivesImage` for `Deepening` in src/deep.rt.
use Rattle.std.proofs.Common.{◌≡◌, ◌∙◌, ◌*◌, inr, ℕ, List, Some, take, ap}
use Rattle.dvd_block.specs.Buffers.{piece_bytes}
use Rattle.dvd_capture.proofs.WorkParts.{marks-height, rows-height}
use Rattle.dvd_capture.specs.Works.{marks_of_work, rows_of}
use Rattle.dvd_deep.specs.Reading.{deep_cause}
use Rattle.dvd_loop.specs.Streams.{streams}
use Rattle.dvd_commands.specs.Inner.Performing.{IsFoundBy, IsRefusedFor}
use Rattle.dvd_commands.proofs.deep.Blocks.{found_given, read_given}
use Rattle.dvd_commands.proofs.recover.Blocks.{refused, same_work}
use Rattle.dvd_commands.proofs.TwoSteps.{done_as, write_is}
use Rattle.dvd_commands.proofs.deep.DeepeningGivesImage.give.Goals as goal

pub returns-in-Ok-clause-done : goal.returns-in-Ok-clause-done
returns-in-Ok-clause-done g c = λ source.
    let work = c.args.work.now in
    write_is _ _ _ (read_given _ _ _ _ _ _ (rows-height work.received) (marks-height work.marks) c.in-Ok.ensures.read)
    _ _ c.write_image.result (c.write_image.ensures source (g.E.Sink.seen c.args.report.now))

pub returns-in-Ok-search_block-clause-done : goal.returns-in-Ok-search_block-clause-done
returns-in-Ok-search_block-clause-done g c = λ source.
    let layout = c.args.block.now.layout.now in
    let entry = c.args.block.now.entry.now in
    let work = c.args.work.now in
    let bytes : List ℕ = piece_bytes c.search_block.new.piece in
    let round = c.in-Ok-search_block.round in
    let found = same_work (λ rows marks. IsFoundBy layout entry rows marks bytes round) work c.read_block.new.work c.read_block.ensures.received c.read_block.ensures.marks
    (c.in-Ok-search_block.ensures.found layout) in
    done_as _ _
    (found_given layout c.args.block.now.k entry (rows_of work) (marks_of_work work) bytes _ round found
    (ap (take (2048 * c.image_sectors-count.result)) c.bytes.ensures.bytes ∙ ap (λ (n : ℕ). take (2048 * n) bytes) c.image_sectors-count.ensures.value))
    (streams source (g.K.Sink.seen c.args.out.now) (g.E.Sink.seen c.args.report.now))
    (streams source (g.K.Sink.seen c.give_back.new.out) (g.E.Sink.seen c.give_back.new.report)) c.give_back.result (c.give_back.ensures source)

pub returns-in-Err-search_block-clause-done : goal.returns-in-Err-search_block-clause-done
returns-in-Err-search_block-clause-done g c = λ source.
    let layout = c.args.block.now.layout.now in
    let entry = c.args.block.now.entry.now in
    let work = c.args.work.now in
    let cause = c.in-Err-search_block.cause in
    let first = same_work (λ rows marks. deep_cause rows marks entry ≡ Some cause) work c.read_block.new.work c.read_block.ensures.received c.read_block.ensures.marks
    c.in-Err-search_block.ensures.refused in
    done_as _ _
    (λ steps kind is.
    inr (refused layout c.args.block.now.k entry (rows_of work) (marks_of_work work) _ cause first steps kind
    (same_work (λ rows marks. IsRefusedFor layout c.args.block.now.k entry rows marks cause steps kind) work c.read_block.new.work c.read_block.ensures.received c.read_block.ensures.marks is)))
    (streams source (g.K.Sink.seen c.args.out.now) (g.E.Sink.seen c.args.report.now))
    (streams source (g.K.Sink.seen c.refuse_block.new.out) (g.E.Sink.seen c.refuse_block.new.report)) c.refuse_block.result (c.refuse_block.ensures source)
