-- Ours: the values of a word by its thirds. A word of at most 255 bytes, with zeros put before it, is three pieces of
-- 85 bytes. Since alpha^255 is 1, the 85th power of alpha^k depends on k mod 3 alone. So for each of these three the
-- pieces can be added up to one.
use Rattle.std.specs.Prelude.{◌≡◌, ℕ, zero, suc, ◌+◌, ◌-◌, ◌*◌, ◌/◌, ◌%◌, ◌<◌, List, [], ◌++◌, map, length, take, drop, replicate, slice_index, slice_index_or}
use Rattle.std.specs.List.{range_with_len}
use Rattle.coding.specs.Field.{alpha, plus, product, power}
use Rattle.coding.specs.Words.{value}
use Rattle.rs_code.specs.Inner.Polynomials.{sum_of, mul_scalar}
use Rattle.coding.specs.Rows.{place}

-- a word after this many zeros
unfoldable pub after_zeros : ℕ → List ℕ → List ℕ
after_zeros count word = replicate count 0 ++ word

-- the pieces 0 to i of a word, each of this size, added up to one by Horner's rule in the factor
unfoldable pub folded : ℕ → ℕ → List ℕ → ℕ → List ℕ
folded size factor word zero = take size word
folded size factor word (suc i) = sum_of (mul_scalar factor (folded size factor word i)) (take size (drop (size * suc i) word))

-- a byte of the third with number i, by the three pieces' bytes: Horner's rule in alpha^(85 i)
abbrev pub third_byte : ℕ → ℕ → ℕ → ℕ → ℕ
third_byte i a b c = plus (product (power alpha (85 * i)) (plus (product (power alpha (85 * i)) a) b)) c

-- a place of the third with number i in lane j, by what is stored of it. With n of the five pieces after its own, it is
-- stored rotated 2 i n times: rotated i n times more it is itself, since three rotations change nothing
abbrev pub third_at : List (List (List ℕ)) → ℕ → ℕ → ℕ → ℕ
third_at thirds i j q = product (place (slice_index_or thirds q []) i j) (power alpha (85 * (i * (4 - q / 17))))

-- the third with number i in lane j
unfoldable pub third : List (List (List ℕ)) → ℕ → ℕ → List ℕ
third thirds i j = map (third_at thirds i j) (range_with_len 0 85)

-- the third with number i has the word's values at the powers of alpha whose exponents are i mod 3
pub record IsThird (i : ℕ) (word third : List ℕ) : Type 0 where
  pub size : length third ≡ 85
  pub values : (k : ℕ) → k % 3 ≡ i → value third (power alpha k) ≡ value word (power alpha k)

-- the places below `to` of the thirds of 32 words after zeros are stored, and were bytes
pub record AreStored (zeros : ℕ) (word : ℕ → List ℕ) (to : ℕ) (thirds : List (List (List ℕ))) : Type 0 where
  pub size : length thirds ≡ 85
  pub set : (q i j : ℕ) → q < to → i < 3 → j < 32
      → third_at thirds i j q ≡ slice_index (folded 85 (power alpha (85 * i)) (after_zeros zeros (word j)) 2) q
  pub bytes : (q m j : ℕ) → q < to → m < 3 → j < 32 → slice_index (after_zeros zeros (word j)) (85 * m + q) < 256

-- the five exponents k below 15 that are i mod 3: the 17th powers of alpha^k are alpha^(170 i) times the fifth roots of
-- one, in order
abbrev pub exponent_at : ℕ → ℕ → ℕ
exponent_at i m = (10 * i + 3 * m) % 15
