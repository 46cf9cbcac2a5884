-- What each iteration of the loop in `divided` keeps.
use Rattle.std.proofs.Common.{◌≡◌, ℕ, ◌<◌, length, get_or}
use Rattle.coding.specs.Field.{product}
use Rattle.coding.specs.Rows.{place}
use Rattle.rs_decode.proofs.inverse.divided.Given as goal

-- the columns so far
abbrev pub invariant-loop-k : goal.invariant-loop-k
invariant-loop-k l = record {
  size : length l.quotients ≡ 16;
  set : (m i : ℕ) → m < l.k → i < l.count → product (get_or l.fn.divisors i 0) (place l.quotients m i) ≡ place l.columns m i;
}
