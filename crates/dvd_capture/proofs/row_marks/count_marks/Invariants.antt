-- What each iteration of the loop in `count_marks` keeps.
use Rattle.std.proofs.Common.{◌≡◌, ◌*◌, ◌≤◌, take}
use Rattle.coding.specs.Filling.{marked}
use Rattle.dvd_capture.specs.MarkBits.{marks_of}
use Rattle.dvd_capture.proofs.row_marks.count_marks.Given as goal

abbrev pub invariant-loop-k : goal.invariant-loop-k
invariant-loop-k l = record { counted : l.count ≡ marked (take (8 * l.k) (marks_of l.bits)); few : l.count ≤ 8 * l.k }
