-- The inverse of the powers of points, and polynomials in lanes that it is made of.
use Rattle.std.specs.Prelude.{◌≡◌, ℕ, zero, suc, ◌<◌, ◌≤◌, List, [], ◌∷◌, ◌++◌, length, slice_index, take, ◌==◌, if◌then◌else◌}
use Rattle.coding.specs.Field.{product, power}
use Rattle.coding.specs.Words.{value}
use Rattle.coding.specs.Rows.{place}
use Rattle.rs_decode.specs.Register.{total}

-- the sum of row i's first bytes, each times a power of x, from the power 0 on
unfoldable pub row_sum : ℕ → List (List ℕ) → ℕ → ℕ → ℕ
row_sum count columns i x = total count (λ k. product (place columns k i) (power x k))

-- Times the powers of the points, the matrix is the identity: row i gives 1 at point i, and 0 at all others.
-- So it takes power sums of bytes at the points back to the bytes.
pub record IsInverse (points : List ℕ) (columns : List (List ℕ)) : Type 0 where
  pub identity : (i j : ℕ) → i < length points → j < length points
      → row_sum (length points) columns i (slice_index points j) ≡ (if i == j then 1 else 0)

-- The other way round it is the identity too: the power sums of column l are 0, but for the one with the number l,
-- which is 1. So it takes any sums to bytes at the points that have them.
pub record HasSums (points : List ℕ) (columns : List (List ℕ)) : Type 0 where
  pub sums : (k l : ℕ) → k < length points → l < length points
      → total (length points) (λ i. product (place columns l i) (power (slice_index points i) k)) ≡ (if k == l then 1 else 0)

-- the first lanes are a polynomial, the highest power first, with these values, and all others are zeros
pub record IsPolynomial (count : ℕ) (lanes : List ℕ) (f : ℕ → ℕ) : Type 0 where
  pub size : length lanes ≡ 32
  pub values : (x : ℕ) → value (take count lanes) x ≡ f x
  pub zeros : (k : ℕ) → count ≤ k → slice_index lanes k ≡ 0

-- the first coefficients of a polynomial divided by (x + y), the highest power first: what Horner's rule comes to at y
unfoldable pub quotient : List ℕ → ℕ → ℕ → List ℕ
quotient polynomial y zero = []
quotient polynomial y (suc count) = quotient polynomial y count ++ value (take (suc count) polynomial) y ∷ []
