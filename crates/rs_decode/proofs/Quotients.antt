-- Quotients of a polynomial by distances: the rows of an inverse, but for one factor each.
use Rattle.std.proofs.Common.{◌≡◌, ◌≢◌, ℕ, zero, suc, ◌+◌, ◌-◌, ◌<◌, List, [], ◌∷◌, ◌++◌, length, get_or, take, All, inl, inr, refl, sym, ap, subst, ◌∙◌, arith, ◌==◌, if◌then◌else◌}
use Rattle.std.proofs.lemmas.Bool.{cases_eq, cases_lt}
use Rattle.std.proofs.lemmas.List.{get_or_append_left, get_or-append-add, length-append}
use Rattle.std.proofs.lemmas.List.Elements.{All-from_get_or, All-get_or}
use Rattle.coding.specs.Field.{plus, product, power}
use Rattle.coding.specs.Rows.{place}
use Rattle.coding.specs.Words.{IsByte, value}
use Rattle.gf_field.proofs.FieldLaws.{one-product, plus-byte, plus-zero, plus-zero_same, product-assoc, product-byte, product-cancel, product-comm, product-one, product-zero, product-zero_factor, zero-plus}
use Rattle.rs_code.proofs.Ring.{ring}
use Rattle.rs_code.proofs.Values.{value-byte, value-more, value-nil, value-push}
use Rattle.rs_code.specs.Inner.PowerSums.{AreDistinct}
use Rattle.rs_decode.specs.Inner.Inverse.{IsInverse, IsPolynomial, quotient, row_sum}
use Rattle.rs_decode.specs.Inner.Locator.{distances}
use Rattle.rs_decode.proofs.Evaluator.{distances-at, distinct-at}
use Rattle.rs_decode.proofs.Inverses.{alike, differ, row_sum-polynomial}
use Rattle.rs_decode.proofs.MarksTakenOut.{distances-byte}
use Rattle.rs_decode.proofs.Roots.{few_zeros, zeros_among-all}
use Rattle.rs_decode.proofs.Totals.{total-byte, total-product, total-same}

-- as many coefficients as are asked for
pub length-quotient : (p : List ℕ) (y count : ℕ) → length (quotient p y count) ≡ count
unfolding quotient
length-quotient p y zero = refl
length-quotient p y (suc count) =
    let before : length (quotient p y count) ≡ count = length-quotient p y count in
    length-append (quotient p y count) (value (take (suc count) p) y ∷ []) ∙ omega (arith, before)

-- each is what Horner's rule comes to after as many steps
pub get_or-quotient : (p : List ℕ) (y count k : ℕ) → k < count → get_or (quotient p y count) k 0 ≡ value (take (suc k) p) y
unfolding quotient
get_or-quotient p y zero k below = absurd (omega arith)
get_or-quotient p y (suc count) k below =
    let size : length (quotient p y count) ≡ count = length-quotient p y count in
    elim (cases_lt k count) [
      | inl earlier ↦ get_or_append_left (quotient p y count) (value (take (suc count) p) y ∷ []) 0 k (omega (arith, size)) ∙ get_or-quotient p y count k earlier
      | inr not_earlier ↦
          let last : k ≡ length (quotient p y count) + 0 = omega (arith, size) in
          let same : count ≡ k = omega arith in
          ap (λ j. get_or (quotient p y count ++ value (take (suc count) p) y ∷ []) j 0) last
          ∙ get_or-append-add (quotient p y count) (value (take (suc count) p) y ∷ []) 0 0 ∙ ap (λ m. value (take (suc m) p) y) same
    ]

-- they are bytes
quotient-bytes : (p : List ℕ) (y count : ℕ) → All IsByte (quotient p y count)
quotient-bytes p y count = All-from_get_or IsByte (quotient p y count) 0 (λ k inside.
    let below : k < count = omega (arith, length-quotient p y count) in
    subst IsByte (sym (get_or-quotient p y count k below)) (value-byte (take (suc k) p) y))

-- Horner's step of the quotient's own value
pub value-quotient : (p : List ℕ) (y count x : ℕ) → value (quotient p y (suc count)) x ≡ plus (product x (value (quotient p y count) x)) (value (take (suc count) p) y)
unfolding quotient
value-quotient p y count x =
    value-push (quotient p y count) (value (take (suc count) p) y) x (value-byte (take (suc count) p) y)
    ∙ ap (λ v. plus v (value (take (suc count) p) y)) (product-comm (value (quotient p y count) x) x)

-- one coefficient alone has no quotient
no_quotient : (x y c : ℕ) → product (plus x y) 0 ≡ plus (plus (product x 0) c) (plus (product y 0) c)
no_quotient x y c = simp ring

-- the quotient's step, multiplied out
distance_drawn : (x y q v : ℕ) → product (plus x y) (plus (product x q) v) ≡ plus (product x (product (plus x y) q)) (product (plus x y) v)
distance_drawn x y q v = simp ring

-- with both values known
both_values : (x y v w c : ℕ) → plus (product x (plus v w)) (product (plus x y) w) ≡ plus (plus (product x v) c) (plus (product y w) c)
both_values x y v w c = simp ring

-- times the distance the quotient is what the values at both differ by
pub value-divided : (p : List ℕ) (x y count : ℕ) → count < length p → All IsByte p
    → product (plus x y) (value (quotient p y count) x) ≡ plus (value (take (suc count) p) x) (value (take (suc count) p) y)
unfolding quotient
value-divided p x y zero inside all =
    let step : (z : ℕ) → value (take 1 p) z ≡ plus (product z 0) (get_or p 0 0) =
    λ z. value-more p 0 z inside (All-get_or IsByte p 0 0 inside all) ∙ ap (λ v. plus (product z v) (get_or p 0 0)) (value-nil z) in
    ap (product (plus x y)) (value-nil x) ∙ rw (step x, step y) (no_quotient x y (get_or p 0 0))
value-divided p x y (suc count) inside all =
    let n = suc count in
    let c = get_or p n 0 in
    let next : n + 1 ≡ suc n = omega arith in
    let step : (z : ℕ) → value (take (suc n) p) z ≡ plus (product z (value (take n p) z)) c =
    λ z. ap (λ m. value (take m p) z) (sym next) ∙ value-more p n z inside (All-get_or IsByte p n 0 inside all) in
    ap (product (plus x y)) (value-quotient p y count x)
    ∙ distance_drawn x y (value (quotient p y count) x) (value (take n p) y)
    ∙ ap (λ v. plus (product x v) (product (plus x y) (value (take n p) y))) (value-divided p x y count (omega arith) all)
    ∙ both_values x y (value (take n p) x) (value (take n p) y) c
    ∙ sym (rw (step x, step y) refl)

-- the product of the distances to all points vanishes at each
pub distances-vanish : (points lanes : List ℕ) → IsPolynomial (1 + length points) lanes (λ x. product 1 (distances points x))
    → (j : ℕ) → j < length points → value (take (suc (length points)) lanes) (get_or points j 0) ≡ 0
distances-vanish points lanes polynomial j inside =
    let x = get_or points j 0 in
    let longer : suc (length points) ≡ 1 + length points = omega arith in
    ap (λ m. value (take m lanes) x) longer ∙ polynomial.values x ∙ one-product (distances points x) (distances-byte points x) ∙ distances-at points j inside

module _ (points p : List ℕ) (distinct : AreDistinct points) (bytes : All IsByte points) (all : All IsByte p) (longer : length points < length p)
    (vanishes : (j : ℕ) → j < length points → value (take (suc (length points)) p) (get_or points j 0) ≡ 0) where
  -- a quotient vanishes at all other points
  quotient-zero : (i j : ℕ) → i < length points → j < length points → j ≢ i → value (quotient p (get_or points i 0) (length points)) (get_or points j 0) ≡ 0
  quotient-zero i j inside within other =
      let x = get_or points j 0 in
      let y = get_or points i 0 in
      let q = value (quotient p y (length points)) x in
      let none : product (plus x y) q ≡ 0 = value-divided p x y (length points) longer all ∙ rw (vanishes j within, vanishes i inside) (plus-zero 0) in
      elim (product-zero_factor (plus x y) q (plus-byte x y (All-get_or IsByte points j 0 within bytes) (All-get_or IsByte points i 0 inside bytes))
      (value-byte (quotient p y (length points)) x) none) [
        | inl same ↦ absurd (distinct-at points j i distinct within inside other (plus-zero_same x y same))
        | inr zero_value ↦ zero_value
      ]

  -- at its own point it doesn't, where the highest coefficient is 1: it has no more coefficients than there are points
  pub quotient-nonzero : get_or p 0 0 ≡ 1 → (i : ℕ) → i < length points → value (quotient p (get_or points i 0) (length points)) (get_or points i 0) ≢ 0
  quotient-nonzero leading i inside none =
      let n = length points in
      let q = quotient p (get_or points i 0) n in
      let size : length q ≡ n = length-quotient p (get_or points i 0) n in
      let first : get_or q 0 0 ≡ 1 =
      get_or-quotient p (get_or points i 0) n 0 (omega arith) ∙ value-first ∙ leading in
      let few = few_zeros points q distinct bytes (quotient-bytes p (get_or points i 0) n) (omega (arith, size)) first in
      let many = zeros_among-all (value q) points (λ j within. elim (cases_eq j i) [
        | inl same ↦ ap (λ k. value q (get_or points k 0)) same ∙ none
        | inr other ↦ quotient-zero i j inside within other
      ]) in
      absurd (omega (arith, few, many, size))
    where
      value-first : value (take 1 p) (get_or points i 0) ≡ get_or p 0 0
      value-first =
          value-more p 0 (get_or points i 0) (omega arith) (All-get_or IsByte p 0 0 (omega arith) all)
          ∙ rw (value-nil (get_or points i 0), product-zero (get_or points i 0)) (zero-plus (get_or p 0 0))

  -- divided by what they are at their own points, the quotients are the rows of the inverse
  pub IsInverse-quotients : (derivatives : List ℕ) (quotients columns : List (List ℕ))
      → ((i : ℕ) → i < length points → get_or derivatives i 0 ≡ value (quotient p (get_or points i 0) (length points)) (get_or points i 0))
      → ((i : ℕ) → i < length points → get_or derivatives i 0 ≢ 0)
      → ((k i : ℕ) → k < length points → i < length points → place quotients k i ≡ get_or (quotient p (get_or points i 0) (length points)) (length points - 1 - k) 0)
      → ((k i : ℕ) → k < length points → i < length points → product (get_or derivatives i 0) (place columns k i) ≡ place quotients k i)
      → IsInverse points columns
  unfolding row_sum
  IsInverse-quotients derivatives quotients columns are nonzero set divided = record {
    identity = λ i j inside within.
        let n = length points in
        let y = get_or points i 0 in
        let x = get_or points j 0 in
        let d = get_or derivatives i 0 in
        let q = quotient p y n in
        let size : length q ≡ n = length-quotient p y n in
        let row = row_sum n columns i x in
        let row_byte : row < 256 = total-byte n (λ k. product (place columns k i) (power x k)) (λ k. product-byte (place columns k i) (power x k)) in
        let d_byte : d < 256 = subst (λ v. v < 256) (sym (are i inside)) (value-byte q y) in
        let times : product d row ≡ value q x =
        sym (total-product n d (λ k. product (place columns k i) (power x k)))
        ∙ total-same n (λ k. product d (product (place columns k i) (power x k))) (λ k. product (place quotients k i) (power x k))
        (λ k below. sym (product-assoc d (place columns k i) (power x k)) ∙ ap (λ v. product v (power x k)) (divided k i below inside))
        ∙ ap (λ m. row_sum m quotients i x) (sym size)
        ∙ row_sum-polynomial q quotients i x (λ k below. set k i (omega (arith, size)) inside ∙ ap (λ m. get_or q (m - 1 - k) 0) (sym size)) in
        elim (cases_eq j i) [
          | inl same ↦
              let own : product d row ≡ product d 1 = times ∙ ap (λ k. value q (get_or points k 0)) same ∙ sym (are i inside) ∙ sym (product-one d d_byte) in
              product-cancel d row 1 d_byte row_byte (omega arith) (nonzero i inside) own ∙ sym (ap (λ k. if i == k then 1 else 0) same ∙ alike i)
          | inr other ↦ elim (product-zero_factor d row d_byte row_byte (times ∙ quotient-zero i j inside within other)) [
            | inl zero_there ↦ absurd (nonzero i inside zero_there)
            | inr is_zero ↦ is_zero ∙ sym (differ i j other)
          ]
        ];
  }
