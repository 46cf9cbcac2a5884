-- What each iteration of the loop in `pack_others` keeps.
use Rattle.std.proofs.Common.{◌≡◌, ℕ, ◌<◌, length, map, get_or}
use Rattle.dvd_capture.specs.MarkBits.{is_other, mark_byte}
use Rattle.dvd_capture.proofs.row_marks.pack_others.Given as goal

abbrev pub invariant-loop-k : goal.invariant-loop-k
invariant-loop-k l = record {
  size : length l.bits ≡ 23;
  packed : (q : ℕ) → q < l.k → get_or l.bits q 0 ≡ mark_byte (map (is_other l.value) l.bytes) q;
}
