-- What each iteration of the loop in `marked_rows` keeps.
use Rattle.std.proofs.Common.{◌≡◌, ℕ, ◌<◌, false, length, get_or, replicate}
use Rattle.dvd_capture.specs.Answers.{marks_line}
use Rattle.dvd_capture.specs.Parts.{marks_of_rows}
use Rattle.dvd_deep.proofs.tries.marked_rows.Given as goal

-- the rows so far that aren't noted as marked have no marks
abbrev pub invariant-loop-i : goal.invariant-loop-i
invariant-loop-i l = record {
  size : length l.marked ≡ 208;
  said : (k : ℕ) → k < l.i → get_or l.marked k false ≡ false → marks_line (marks_of_rows l.marks) k ≡ replicate 182 false;
}
