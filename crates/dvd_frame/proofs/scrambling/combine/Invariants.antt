-- What each iteration of the loop in `combine` keeps.
use Rattle.std.proofs.Common.{◌≡◌, ℕ, ◌<◌, ◌≤◌, get_or}
use Rattle.std.specs.Prelude.{bit_xor}
use Rattle.dvd_frame.proofs.scrambling.combine.Given as goal

abbrev pub invariant-loop-k : goal.invariant-loop-k
invariant-loop-k l = record {
  combined : (k : ℕ) → k < l.k → get_or l.bytes k 0 ≡ bit_xor (get_or l.fn.bytes k 0) (get_or l.keys k 0);
  rest : (k : ℕ) → l.k ≤ k → get_or l.bytes k 0 ≡ get_or l.fn.bytes k 0;
}
