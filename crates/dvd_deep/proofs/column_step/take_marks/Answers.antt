-- The proof of `take_marks` in src/column_step.rt.
use Rattle.std.proofs.Common.{◌∙◌, ◌<◌, length, map, sym, ap, arith}
use Rattle.std.proofs.lemmas.List.{length-map, map-set}
use Rattle.dvd_capture.specs.Parts.{marks_of_row}
use Rattle.dvd_capture.proofs.MarkLists.{line-marks}
use Rattle.dvd_deep.specs.Inner.Steps.{mark_left}
use Rattle.dvd_deep.proofs.MarksTaken.{take-next}
use Rattle.dvd_deep.proofs.column_step.take_marks.Goals as goal

pub loop-i-preserved : goal.loop-i-preserved
loop-i-preserved c =
    let i = c.loop-i.i in
    let marks = c.loop-i.marks in
    let within : i < length marks = omega (arith, length-map marks marks_of_row, c.loop-i.invariant.height) in
    take-next c.args.answered.now (map marks_of_row c.args.marks.now) (map marks_of_row marks) _ _ i (omega arith) (map-set marks_of_row marks i _)
    (λ j inside. c.take_row_marks.ensures j inside ∙ ap (λ row. mark_left c.args.answered.now row j) (sym (line-marks marks i _ within)))
    c.loop-i.invariant
