-- What each iteration of the loop in `spread_bits` keeps.
use Rattle.std.proofs.Common.{◌≡◌, ℕ, ◌*◌, ◌<◌, length, get_or}
use Rattle.dvd_capture.specs.MarkBits.{mark_at}
use Rattle.dvd_capture.specs.MarkBits.{is_set}
use Rattle.dvd_capture.proofs.row_marks.spread_bits.Given as goal

abbrev pub invariant-loop-k : goal.invariant-loop-k
invariant-loop-k l = record {
  size : length l.marks ≡ 184;
  marks : (q : ℕ) → q < 8 * l.k → is_set (get_or l.marks q 0) ≡ mark_at l.bits q;
}
