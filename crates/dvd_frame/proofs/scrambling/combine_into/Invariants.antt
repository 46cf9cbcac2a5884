-- What each iteration of the loop in `combine_into` keeps.
use Rattle.std.proofs.Common.{◌≡◌, ℕ, ◌<◌, length, get_or}
use Rattle.std.specs.Prelude.{bit_xor}
use Rattle.dvd_frame.proofs.scrambling.combine_into.Given as goal

abbrev pub invariant-loop-k : goal.invariant-loop-k
invariant-loop-k l = record {
  size : length l.out ≡ length l.fn.out;
  combined : (k : ℕ) → k < l.k → get_or l.out k 0 ≡ bit_xor (get_or l.bytes k 0) (get_or l.keys k 0);
}
