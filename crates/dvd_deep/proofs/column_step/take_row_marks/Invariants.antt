-- What each iteration of the loop in `take_row_marks` keeps.
use Rattle.std.proofs.Common.{◌≡◌, ℕ, ◌<◌, ◌≤◌, false, get_or}
use Rattle.dvd_capture.specs.Parts.{marks_of_row}
use Rattle.dvd_deep.specs.Inner.Steps.{mark_left}
use Rattle.dvd_deep.proofs.column_step.take_row_marks.Given as goal

-- the marks of the places so far are taken, and the others are as they were
abbrev pub invariant-loop-j : goal.invariant-loop-j
invariant-loop-j l = record {
  taken : (k : ℕ) → k < l.j → get_or (marks_of_row l.row) k false ≡ mark_left l.answered (marks_of_row l.fn.row) k;
  left : (k : ℕ) → l.j ≤ k → get_or (marks_of_row l.row) k false ≡ get_or (marks_of_row l.fn.row) k false;
}
