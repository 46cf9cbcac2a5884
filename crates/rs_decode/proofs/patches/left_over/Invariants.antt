-- What each iteration of the loop in `left_over` keeps.
use Rattle.std.proofs.Common.{◌≡◌, ℕ, ◌<◌, ◌≤◌, length, take}
use Rattle.coding.specs.Field.{plus}
use Rattle.coding.specs.Rows.{column, place}
use Rattle.rs_code.specs.Inner.PowerSums.{power_sum}
use Rattle.rs_decode.proofs.patches.left_over.Given as goal

-- what is left of the values at the further powers so far
abbrev pub invariant-loop-k : goal.invariant-loop-k
invariant-loop-k l = record {
  size : length l.left ≡ 16;
  sums : (k n : ℕ) → length l.points ≤ k → k < l.k → n < 32
      → place l.left k n ≡ plus (place l.values k n) (power_sum (take (length l.points) (column l.bytes n)) l.points k);
}
