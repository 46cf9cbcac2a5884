-- Ours: parity by the values that it has at the first powers of alpha.
use Rattle.std.specs.Prelude.{◌≡◌, ℕ, ◌-◌, ◌<◌, List, ◌++◌, length, replicate, ◌==◌, if◌then◌else◌}
use Rattle.coding.specs.Field.{alpha, power}
use Rattle.coding.specs.Words.{value}
use Rattle.coding.specs.Rows.{column}

-- a word followed by zeros, up to this length
unfoldable pub filled : ℕ → List ℕ → List ℕ
filled size word = word ++ replicate (size - length word) 0

-- each column of the matrix, as a word, has the value 1 at its own power of alpha, and 0 at the others below the r-th
pub record IsBasis (r : ℕ) (matrix : List (List ℕ)) : Type 0 where
  pub size : length matrix ≡ r
  pub values : (k l : ℕ) → k < r → l < r → value (column matrix l) (power alpha k) ≡ (if k == l then 1 else 0)
