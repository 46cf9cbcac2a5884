-- What each iteration of the loop in `lane_products` keeps.
use Rattle.std.proofs.Common.{◌≡◌, ℕ, ◌<◌, length, get_or}
use Rattle.coding.specs.Field.{partial_product, shifted}
use Rattle.coding.specs.Rows.{place}
use Rattle.rs_decode.proofs.multiples.lane_products.Given as goal

-- in each lane the sum over the bits so far
abbrev pub invariant-loop-k : goal.invariant-loop-k
invariant-loop-k l = record {
  size : length l.sum ≡ 16;
  added : (i factor : ℕ) → i < 16 → ((k : ℕ) → k < 8 → place l.multiples k i ≡ shifted factor k) → get_or l.sum i 0 ≡ partial_product factor (get_or l.lanes i 0) l.k;
}
