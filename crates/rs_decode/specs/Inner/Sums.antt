-- Bytes at points and their power sums.
use Rattle.std.specs.Prelude.{◌≡◌, ℕ, ◌<◌, List, length, slice_index, All}
use Rattle.coding.specs.Words.{IsByte}
use Rattle.rs_code.specs.Inner.PowerSums.{power_sum}

-- the first power sums of the bytes at the points are these
pub record AreSums (points bytes sums : List ℕ) : Type 0 where
  pub sums_are : (k : ℕ) → k < length sums → power_sum bytes points k ≡ slice_index sums k

-- If any bytes at the points have these sums, they are those that were found. Where none have, anything may be found.
pub record AreOnly (points sums found : List ℕ) : Type 0 where
  pub size : length found ≡ length points
  pub only : (bytes : List ℕ) → length bytes ≡ length points → All IsByte bytes → AreSums points bytes sums → bytes ≡ found
