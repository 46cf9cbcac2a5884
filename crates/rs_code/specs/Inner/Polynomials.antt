-- Ours: sums and multiples of words over the field, and what a remainder is. A word's first byte is the coefficient of
-- the highest power, as in ECMA-267, clause 18.
use Rattle.std.specs.Prelude.{◌≡◌, ℕ, List, [], ◌∷◌, ◌++◌, length, map, All}
use Rattle.coding.specs.Field.{plus, product}
use Rattle.coding.specs.Words.{IsByte, value}

-- the sum of two words, byte by byte; where one is longer, the rest of it is left out
unfoldable pub sum_of : List ℕ → List ℕ → List ℕ
sum_of [] ys = []
sum_of (x ∷ xs) [] = []
sum_of (x ∷ xs) (y ∷ ys) = plus x y ∷ sum_of xs ys

-- the word with each byte multiplied by a factor
unfoldable pub mul_scalar : ℕ → List ℕ → List ℕ
mul_scalar factor word = map (product factor) word

-- a polynomial with the leading coefficient 1, which isn't written, times (x + root)
unfoldable pub times_root : List ℕ → ℕ → List ℕ
times_root generator root = sum_of (generator ++ 0 ∷ []) (mul_scalar root (1 ∷ generator))

-- The bytes read, followed by the register, have the value 0 wherever the generator has. So the register is the
-- remainder of the division by the generator, and neither division nor remainder is named.
pub record IsRemainder (generator read register : List ℕ) : Type 0 where
  pub size : length register ≡ length generator
  pub bytes : All IsByte register
  pub vanishes : (x : ℕ) → value (1 ∷ generator) x ≡ 0 → value (read ++ register) x ≡ 0
