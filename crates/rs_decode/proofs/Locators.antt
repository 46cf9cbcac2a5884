-- The polynomial that vanishes at the points of bytes is a register that generates their power sums. So the shortest
-- register that generates them is no longer than there are bytes.
use Rattle.std.proofs.Common.{◌≡◌, ◌≢◌, ℕ, zero, suc, ◌+◌, ◌-◌, ◌<◌, ◌≤◌, List, [], ◌∷◌, ◌++◌, length, get_or, All, refl, sym, ap, ◌∙◌, arith}
use Rattle.std.proofs.lemmas.List.Elements.{All-append, All-cons, All-nil}
use Rattle.coding.specs.Field.{plus, product}
use Rattle.coding.specs.Words.{IsByte, value}
use Rattle.gf_field.proofs.FieldLaws.{plus-self, plus-zero, power-zero, product-one, product-zero, zero-product}
use Rattle.coding.specs.Distance.{weight}
use Rattle.rs_code.specs.Inner.Polynomials.{mul_scalar, times_root}
use Rattle.rs_code.specs.Inner.PowerSums.{power_sum}
use Rattle.rs_code.proofs.Distance.{All-sum_of}
use Rattle.rs_code.proofs.Generator.{length-times_root, value-times_root}
use Rattle.rs_code.proofs.PowerSums.{weight-zero, weight-nonzero}
use Rattle.rs_code.proofs.Remainders.{All-mul_scalar}
use Rattle.rs_code.proofs.Values.{value-nil, value-cons}
use Rattle.rs_decode.specs.Inner.Locator.{at_points, distances}
use Rattle.rs_decode.specs.Register.{Generates, IsLeast}
use Rattle.rs_decode.specs.Inner.Sums.{AreSums}
use Rattle.rs_decode.proofs.Combinations.{connection-sums, power_sum-alike, power_sum-taken}

-- ---- the polynomial with given zeros

-- the product of (x + a) for each point a, without its leading 1
product_of : List ℕ → List ℕ
product_of [] = []
product_of (a ∷ points) = times_root (product_of points) a

-- the product has as many coefficients after the leading 1 as there are points
length-product_of : (points : List ℕ) → length (product_of points) ≡ length points
unfolding product_of
length-product_of [] = refl
length-product_of (a ∷ points) = length-times_root (product_of points) a ∙ ap suc (length-product_of points)

-- a polynomial of bytes times (x + root) has bytes as coefficients
All-times_root : (generator : List ℕ) (root : ℕ) → All IsByte generator → All IsByte (times_root generator root)
unfolding times_root
All-times_root generator root all =
    All-sum_of (generator ++ 0 ∷ []) (mul_scalar root (1 ∷ generator))
    (All-append IsByte generator (0 ∷ []) all (All-cons IsByte 0 [] (omega arith) (All-nil IsByte))) (All-mul_scalar root (1 ∷ generator))

-- the coefficients of the product are bytes
All-product_of : (points : List ℕ) → All IsByte (product_of points)
unfolding product_of
All-product_of [] = All-nil IsByte
All-product_of (a ∷ points) = All-times_root (product_of points) a (All-product_of points)

-- its value is the product of the distances to the points
value-product_of : (points : List ℕ) (x : ℕ) → value (1 ∷ product_of points) x ≡ distances points x
unfolding product_of distances
value-product_of [] x =
    value-cons 1 [] x ∙ rw (power-zero x, product-one 1 (omega arith), value-nil x) (plus-zero 1)
value-product_of (a ∷ points) x = value-times_root (product_of points) a x ∙ ap (product (plus x a)) (value-product_of points x)

-- ---- the points of the bytes that aren't 0

-- the points of the bytes that aren't 0
points_in_use : List ℕ → List ℕ → List ℕ
points_in_use [] points = []
points_in_use (byte ∷ bytes) [] = []
points_in_use (zero ∷ bytes) (point ∷ points) = points_in_use bytes points
points_in_use (suc byte ∷ bytes) (point ∷ points) = point ∷ points_in_use bytes points

-- there are as many as such bytes
length-points_in_use : (bytes points : List ℕ) → length bytes ≡ length points → length (points_in_use bytes points) ≡ weight bytes
unfolding points_in_use weight
length-points_in_use [] points same = refl
length-points_in_use (byte ∷ bytes) [] same = absurd (omega arith)
length-points_in_use (zero ∷ bytes) (point ∷ points) same = length-points_in_use bytes points (omega arith) ∙ sym (weight-zero bytes)
length-points_in_use (suc byte ∷ bytes) (point ∷ points) same =
    ap suc (length-points_in_use bytes points (omega arith)) ∙ sym (weight-nonzero byte bytes)

-- the distances to them are 0 at each
distances-in_use : (bytes points : List ℕ) (j : ℕ) → length bytes ≡ length points → j < length bytes → get_or bytes j 0 ≢ 0
    → distances (points_in_use bytes points) (get_or points j 0) ≡ 0
unfolding points_in_use distances
distances-in_use [] points j same inside some = absurd (omega arith)
distances-in_use (byte ∷ bytes) [] j same inside some = absurd (omega arith)
distances-in_use (zero ∷ bytes) (point ∷ points) zero same inside some = absurd (some refl)
distances-in_use (zero ∷ bytes) (point ∷ points) (suc j) same inside some = distances-in_use bytes points j (omega arith) (omega arith) some
distances-in_use (suc byte ∷ bytes) (point ∷ points) zero same inside some =
    rw (plus-self point) (zero-product (distances (points_in_use bytes points) point))
distances-in_use (suc byte ∷ bytes) (point ∷ points) (suc j) same inside some =
    rw (distances-in_use bytes points j (omega arith) (omega arith) some) (product-zero (plus (get_or points j 0) point))

-- ---- the register

-- the polynomial that vanishes at these points, as taps
Generates-in_use : (sums bytes points : List ℕ) → length bytes ≡ length points → weight bytes ≤ length sums → AreSums points bytes sums
    → Generates (weight bytes) (1 ∷ product_of (points_in_use bytes points)) sums
Generates-in_use sums bytes points same few are =
    let used = points_in_use bytes points in
    let count : length used ≡ weight bytes = length-points_in_use bytes points same in
    let size : length (1 ∷ product_of used) ≡ weight bytes + 1 = omega (arith, length-product_of used) in
    record {
      within = few;
      size = size;
      bytes = All-cons IsByte 1 (product_of used) (omega arith) (All-product_of used);
      first = refl;
      vanishes = λ n reached inside.
          connection-sums (weight bytes) (1 ∷ product_of used) sums bytes points n size reached inside are
          ∙ power_sum-alike (value (1 ∷ product_of used)) (distances used) bytes points _ (value-product_of used)
          ∙ power_sum-taken (distances used) bytes points _ (λ j below some. distances-in_use bytes points j same below some);
    }

-- the shortest is no longer
pub shortest-few : (len : ℕ) (sums bytes points : List ℕ) → length bytes ≡ length points → weight bytes ≤ length sums → AreSums points bytes sums → IsLeast len sums
    → len ≤ weight bytes
shortest-few len sums bytes points same few are least = least (weight bytes) _ (Generates-in_use sums bytes points same few are)

-- what it takes the bytes to has the sums 0, as far as it reaches
pub power_sum-generated : (len : ℕ) (taps sums bytes points : List ℕ) (k : ℕ) → Generates len taps sums → k + len < length sums → AreSums points bytes sums
    → power_sum (at_points (value taps) bytes points) points k ≡ 0
power_sum-generated len taps sums bytes points k generates inside are =
    let place : k + len - len ≡ k = omega arith in
    sym (connection-sums len taps sums bytes points (k + len) generates.size (omega arith) inside are
    ∙ ap (power_sum (at_points (value taps) bytes points) points) place)
    ∙ generates.vanishes (k + len) (omega arith) inside
