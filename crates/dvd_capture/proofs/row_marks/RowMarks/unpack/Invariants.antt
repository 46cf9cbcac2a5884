-- What each iteration of the loop in `RowMarks::unpack` keeps.
use Rattle.std.proofs.Common.{◌≡◌, ℕ, ◌<◌, false, length, get_or}
use Rattle.dvd_capture.specs.MarkBits.{mark_at}
use Rattle.dvd_capture.proofs.row_marks.RowMarks.unpack.Given as goal

abbrev pub invariant-loop-j : goal.invariant-loop-j
invariant-loop-j l = record {
  size : length l.out ≡ 182;
  written : (j : ℕ) → j < l.j → get_or l.out j false ≡ mark_at l.self.bits j;
}
