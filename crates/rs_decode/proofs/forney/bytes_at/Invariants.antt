-- What each iteration of the loop in `bytes_at` keeps.
use Rattle.std.proofs.Common.{◌≡◌, List, ℕ, ◌<◌, length, get_or, All}
use Rattle.coding.specs.Words.{IsByte}
use Rattle.rs_decode.specs.Inner.Sums.{AreSums}
use Rattle.rs_decode.proofs.forney.bytes_at.Given as goal

-- the bytes so far are those that any bytes with the sums have at the first points
abbrev pub invariant-loop-i : goal.invariant-loop-i
invariant-loop-i l = record {
  size : length l.bytes.items ≡ l.i;
  found : (bytes : List ℕ) → length bytes ≡ length l.points → All IsByte bytes → AreSums l.points bytes l.sums → (j : ℕ) → j < l.i → get_or bytes j 0 ≡ get_or l.bytes.items j 0;
}
