-- The inverse of the powers of points: what its rows take power sums to.
use Rattle.std.proofs.Common.{◌≡◌, ◌≢◌, ℕ, zero, suc, ◌+◌, ◌-◌, ◌<◌, ◌≤◌, List, [], ◌∷◌, length, length-set, length-take-le, get_or, get_or-set_other, get_or-take, set, take, replicate, All, inl, inr, refl, sym, ap, subst, ◌∙◌, arith, ◌==◌, if◌then◌else◌}
use Rattle.std.proofs.lemmas.Bool.{cases_lt}
use Rattle.std.proofs.lemmas.Bool.Decides.{nat_tests}
use Rattle.std.proofs.lemmas.List.{get_or_past, take_all, take_more}
use Rattle.std.proofs.lemmas.Grind.{same_number_lists}
use Rattle.std.proofs.lemmas.List.Elements.{All-get_or}
use Rattle.coding.specs.Field.{plus, product, power}
use Rattle.coding.specs.Words.{IsByte, value}
use Rattle.gf_field.proofs.FieldLaws.{plus-comm, plus-zero, power-zero, product-byte, product-one, product-zero}
use Rattle.rs_code.proofs.Ring.{ring}
use Rattle.rs_code.proofs.Values.{value-byte, value-cons, value-nil}
use Rattle.rs_code.specs.Inner.PowerSums.{power_sum}
use Rattle.coding.specs.Rows.{place}
use Rattle.rs_lanes.specs.Inner.Lanes.{HoldsLanes}
use Rattle.rs_decode.specs.Register.{total}
use Rattle.rs_decode.specs.Inner.Inverse.{IsInverse, IsPolynomial, row_sum}
use Rattle.rs_decode.specs.Inner.Locator.{at_points, distances}
use Rattle.rs_decode.specs.Inner.Sums.{AreOnly, AreSums}
use Rattle.rs_decode.proofs.Evaluator.{power_sum-single, value-times_distance}
use Rattle.rs_decode.proofs.MarksTakenOut.{distances-push}
use Rattle.rs_decode.proofs.Totals.{total-none, total-plus, total-product, total-same, total-zeros, total-next}

-- one byte's share of a combination, multiplied out
one_share : (c b p s : ℕ) → product c (plus (product b p) s) ≡ plus (product b (product c p)) (product c s)
one_share c b p s = simp ring

-- a combination of power sums counts each byte as often as the same combination of its point's powers
total-power_sums : (n : ℕ) (c : ℕ → ℕ) (bytes points : List ℕ)
    → total n (λ k. product (c k) (power_sum bytes points k)) ≡ power_sum (at_points (λ x. total n (λ k. product (c k) (power x k))) bytes points) points 0
unfolding power_sum at_points
total-power_sums n c [] points = total-zeros n (λ k. product (c k) 0) (λ k below. product-zero (c k))
total-power_sums n c (byte ∷ bytes) [] = total-zeros n (λ k. product (c k) 0) (λ k below. product-zero (c k))
total-power_sums n c (byte ∷ bytes) (point ∷ points) =
    let f : ℕ → ℕ = λ k. product byte (product (c k) (power point k)) in
    let g : ℕ → ℕ = λ k. product (c k) (power_sum bytes points k) in
    let share = product byte (total n (λ k. product (c k) (power point k))) in
    total-same n (λ k. product (c k) (plus (product byte (power point k)) (power_sum bytes points k))) (λ k. plus (f k) (g k))
    (λ k below. one_share (c k) byte (power point k) (power_sum bytes points k))
    ∙ total-plus n f g
    ∙ rw (total-product n byte (λ k. product (c k) (power point k)), total-power_sums n c bytes points)
    (ap (λ v. plus v (power_sum (at_points (λ x. total n (λ k. product (c k) (power x k))) bytes points) points 0))
    (sym (product-one share (product-byte byte (total n (λ k. product (c k) (power point k))))) ∙ ap (product share) (sym (power-zero point))))

-- the numbers of two points
pub differ : (i j : ℕ) → j ≢ i → ◌≡◌ {A = ℕ} (if i == j then 1 else 0) 0
differ i j other = grind (arith, nat_tests)

-- a point's own number
pub alike : (i : ℕ) → ◌≡◌ {A = ℕ} (if i == i then 1 else 0) 1
alike i = grind (arith, nat_tests)

-- row i of the inverse, times the power sums of bytes at the points, is byte i
pub byte-combined : (points bytes sums : List ℕ) (columns : List (List ℕ)) (i : ℕ) → IsInverse points columns → All IsByte bytes → length bytes ≡ length points → i < length points
    → length points ≤ length sums → AreSums points bytes sums
    → total (length points) (λ k. product (place columns k i) (get_or sums k 0)) ≡ get_or bytes i 0
unfolding row_sum
byte-combined points bytes sums columns i inverse all same inside enough are =
    let n = length points in
    let byte = get_or bytes i 0 in
    total-same n (λ k. product (place columns k i) (get_or sums k 0)) (λ k. product (place columns k i) (power_sum bytes points k))
    (λ k below. ap (product (place columns k i)) (sym (are.sums_are k (omega arith))))
    ∙ total-power_sums n (λ k. place columns k i) bytes points
    ∙ power_sum-single (row_sum n columns i) bytes points i same inside (λ j below other. inverse.identity i j inside below ∙ differ i j other)
    ∙ ap (product byte) (inverse.identity i i inside inside ∙ alike i)
    ∙ product-one byte (All-get_or IsByte bytes i 0 (omega arith) all)

-- a polynomial, the highest power first, as a sum from the power 0 on
value-total : (polynomial : List ℕ) (x : ℕ) → value polynomial x ≡ total (length polynomial) (λ k. product (get_or polynomial (length polynomial - 1 - k) 0) (power x k))
value-total [] x = value-nil x ∙ sym (total-none (λ k. product 0 (power x k)))
value-total (c ∷ cs) x =
    let n = length cs in
    let f : ℕ → ℕ = λ k. product (get_or (c ∷ cs) (suc n - 1 - k) 0) (power x k) in
    let first : suc n - 1 - n ≡ 0 = omega arith in
    value-cons c cs x
    ∙ rw (value-total cs x) (plus-comm (product c (power x n)) (total n (λ k. product (get_or cs (n - 1 - k) 0) (power x k))))
    ∙ ap (λ v. plus v (product c (power x n)))
    (total-same n (λ k. product (get_or cs (n - 1 - k) 0) (power x k)) f (λ k below.
    let place : suc (n - 1 - k) ≡ suc n - 1 - k = omega arith in
    ap (λ j. product (get_or (c ∷ cs) j 0) (power x k)) place))
    ∙ ap (λ j. plus (total n f) (product (get_or (c ∷ cs) j 0) (power x n))) (sym first)
    ∙ sym (total-next n f)

-- a row that has the coefficients of a polynomial has its values
pub row_sum-polynomial : (polynomial : List ℕ) (columns : List (List ℕ)) (i x : ℕ)
    → ((k : ℕ) → k < length polynomial → place columns k i ≡ get_or polynomial (length polynomial - 1 - k) 0)
    → row_sum (length polynomial) columns i x ≡ value polynomial x
unfolding row_sum
row_sum-polynomial polynomial columns i x set =
    total-same (length polynomial) (λ k. product (place columns k i) (power x k)) (λ k. product (get_or polynomial (length polynomial - 1 - k) 0) (power x k))
    (λ k below. ap (λ c. product c (power x k)) (set k below))
    ∙ sym (value-total polynomial x)

-- ---- polynomials in lanes

-- before the first point the polynomial is as it was
pub IsPolynomial-none : (count : ℕ) (lanes others : List ℕ) (f : ℕ → ℕ) → IsPolynomial count lanes f
    → IsPolynomial (count + 0) lanes (λ x. product (f x) (distances (take 0 others) x))
unfolding distances
IsPolynomial-none count lanes others f polynomial =
    let same : count ≡ count + 0 = omega arith in
    record {
      size = polynomial.size;
      values = λ x.
          let byte : f x < 256 = subst (λ v. v < 256) (polynomial.values x) (value-byte (take count lanes) x) in
          ap (λ n. value (take n lanes) x) (sym same) ∙ polynomial.values x ∙ sym (product-one (f x) byte);
      zeros = λ k above. polynomial.zeros k (omega arith);
    }

-- one factor in front of a product
factor_first : (d f p : ℕ) → product d (product f p) ≡ product f (product p d)
factor_first d f p = simp ring

-- one point more
pub IsPolynomial-next : (count i : ℕ) (lanes next others : List ℕ) (f : ℕ → ℕ) → i < length others → count + length others ≤ 32 → length next ≡ 32
    → All IsByte lanes → All IsByte next → get_or next 0 0 ≡ get_or lanes 0 0
    → ((k : ℕ) → k < 31 → get_or next (k + 1) 0 ≡ plus (get_or lanes (k + 1) 0) (product (get_or others i 0) (get_or lanes k 0)))
    → IsPolynomial (count + i) lanes (λ x. product (f x) (distances (take i others) x))
    → IsPolynomial (count + (i + 1)) next (λ x. product (f x) (distances (take (i + 1) others) x))
IsPolynomial-next count i lanes next others f inside few next_size all next_all first each before =
    let a = get_or others i 0 in
    let n = count + i in
    let longer : n + 1 ≡ count + (i + 1) = omega arith in
    record {
      size = next_size;
      values = λ x.
          let used = distances (take i others) x in
          ap (λ m. value (take m next) x) (sym longer)
          ∙ value-times_distance lanes next a x n (omega arith) before.size next_size all next_all first each
          ∙ rw (before.values x, before.zeros n (omega arith)) (plus-zero (product (plus x a) (product (f x) used)))
          ∙ factor_first (plus x a) (f x) used
          ∙ ap (product (f x)) (sym (ap (λ xs. distances xs x) (take_more others i 0 inside) ∙ distances-push (take i others) a x));
      zeros = λ k above.
          elim (cases_lt k 32) [
            | inl below ↦
                let up : k - 1 + 1 ≡ k = omega arith in
                ap (λ m. get_or next m 0) (sym up) ∙ each (k - 1) (omega arith)
                ∙ rw (before.zeros (k - 1 + 1) (omega arith), before.zeros (k - 1) (omega arith), product-zero a) (plus-zero 0)
            | inr past ↦ get_or_past next k 0 (omega arith)
          ];
    }

-- all points
pub IsPolynomial-all : (count i : ℕ) (lanes others : List ℕ) (f : ℕ → ℕ) → length others ≤ i → i ≤ length others
    → IsPolynomial (count + i) lanes (λ x. product (f x) (distances (take i others) x))
    → IsPolynomial (count + length others) lanes (λ x. product (f x) (distances others x))
IsPolynomial-all count i lanes others f past within polynomial =
    let all : i ≡ length others = omega arith in
    subst (λ xs. IsPolynomial (count + length others) lanes (λ x. product (f x) (distances xs x))) (take_all (length others) others (omega arith))
    (subst (λ n. IsPolynomial (count + n) lanes (λ x. product (f x) (distances (take n others) x))) all polynomial)

-- each of several zeros is 0, and past the last one is none
get_or-zeros : (n k : ℕ) → ◌≡◌ {A = ℕ} (get_or (replicate n 0) k 0) 0
get_or-zeros zero k = refl
get_or-zeros (suc n) zero = refl
get_or-zeros (suc n) (suc k) = get_or-zeros n k

-- a first lane alone is a constant
pub IsPolynomial-leading : (c : ℕ) → c < 256 → IsPolynomial 1 (set (replicate 32 0) 0 c) (λ x. c)
IsPolynomial-leading c byte = record {
  size = length-set (replicate 32 0) 0 c;
  values = λ x. value-cons c [] x ∙ rw (power-zero x, product-one c byte, value-nil x) (plus-zero c);
  zeros = λ k above.
      let other : k ≢ 0 = omega arith in
      rw get_or-set_other (get_or-zeros 32 k);
}

-- ---- the bytes

-- the first lanes of the columns' sum are the only bytes that can have the sums
pub AreOnly-combined : (points sums lanes found : List ℕ) (columns : List (List ℕ)) (count : ℕ) → count ≡ length points → length points ≤ 16 → length points ≤ length sums
    → IsInverse points columns → HoldsLanes 16 lanes (λ i. total (length (take count sums)) (λ k. product (place columns k i) (get_or (take count sums) k 0)))
    → found ≡ take count lanes → AreOnly points sums found
AreOnly-combined points sums lanes found columns count is_count few enough inverse holds are =
    let wide = holds.size in
    let long : length found ≡ count = ap length are ∙ length-take-le count lanes (omega arith) in
    let taken : length (take count sums) ≡ length points = length-take-le count sums (omega arith) ∙ is_count in
    record {
      size = long ∙ is_count;
      only = λ bytes same all sums_are.
          same_number_lists bytes found (same ∙ sym (long ∙ is_count)) (λ i inside.
          let below : i < length points = omega (arith, same) in
          let here : get_or found i 0 ≡ get_or lanes i 0 = ap (λ xs. get_or xs i 0) are ∙ get_or-take count lanes i 0 (omega arith) in
          let combined : get_or lanes i 0 ≡ total (length points) (λ k. product (place columns k i) (get_or sums k 0)) =
          holds.each i (omega arith)
          ∙ ap (λ n. total n (λ k. product (place columns k i) (get_or (take count sums) k 0))) taken
          ∙ total-same (length points) (λ k. product (place columns k i) (get_or (take count sums) k 0)) (λ k. product (place columns k i) (get_or sums k 0))
          (λ k within. ap (product (place columns k i)) (get_or-take count sums k 0 (omega arith))) in
          sym (here ∙ combined ∙ byte-combined points bytes sums columns i inverse all same below enough sums_are));
    }
