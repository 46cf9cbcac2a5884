-- Ours: the products of a factor with each low and each high nibble, of which the product with a byte is the sum.
use Rattle.std.specs.Prelude.{◌≡◌, ℕ, ◌*◌, ◌^◌, ◌<◌, List}
use Rattle.std.specs.Simd.Lanes.{number_l, digits_l}
use Rattle.coding.specs.Field.{product}
use Rattle.coding.specs.Rows.{place}

-- the products with the low nibbles, and those with the high ones
pub record IsTable (factor : ℕ) (table : List (List ℕ)) : Type 0 where
  pub low : (n : ℕ) → n < 16 → place table 0 n ≡ product n factor
  pub high : (n : ℕ) → n < 16 → place table 1 n ≡ product (16 * n) factor

-- the sixteen bytes of two numbers of 64 bits, the lowest first
abbrev pub row_bytes : List ℕ → List ℕ
row_bytes row = digits_l 256 16 (number_l (2 ^ 64) row)
