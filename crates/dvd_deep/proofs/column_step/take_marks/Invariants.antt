-- What each iteration of the loop in `take_marks` keeps.
use Rattle.dvd_capture.specs.Parts.{marks_of_rows}
use Rattle.dvd_deep.proofs.MarksTaken.{AreTakenTo}
use Rattle.dvd_deep.proofs.column_step.take_marks.Given as goal

abbrev pub invariant-loop-i : goal.invariant-loop-i
invariant-loop-i l = AreTakenTo l.answered (marks_of_rows l.fn.marks) (marks_of_rows l.marks) l.i
