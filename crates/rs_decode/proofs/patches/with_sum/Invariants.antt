-- What each iteration of the loop in `with_sum` keeps.
use Rattle.std.proofs.Common.{◌≡◌, ℕ, ◌<◌, length, drop, get_or, take}
use Rattle.coding.specs.Field.{plus}
use Rattle.coding.specs.Rows.{column}
use Rattle.rs_code.specs.Inner.PowerSums.{power_sum}
use Rattle.rs_decode.proofs.patches.with_sum.Given as goal

-- the power sum of the bytes at the points from the place on is added
abbrev pub invariant-loop-i : goal.invariant-loop-i
invariant-loop-i l = record {
  added : (n : ℕ) → n < 32
      → get_or l.sum n 0 ≡ plus (get_or l.fn.value n 0) (power_sum (drop l.i (take (length l.points) (column l.bytes n))) (drop l.i l.points) l.fn.k);
}
