-- What each iteration of the loop in `own_marks` keeps.
use Rattle.std.proofs.Common.{◌≡◌, ℕ, ◌<◌, false, length, get_or}
use Rattle.dvd_capture.specs.Parts.{marks_of_rows}
use Rattle.dvd_deep.specs.Rounds.{mark_in}
use Rattle.dvd_deep.proofs.tries.own_marks.Given as goal

abbrev pub invariant-loop-i : goal.invariant-loop-i
invariant-loop-i l = record {
  size : length l.own ≡ 208;
  read : (k : ℕ) → k < l.i → get_or l.own k false ≡ mark_in (marks_of_rows l.marks) k l.j;
}
