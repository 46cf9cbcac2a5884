-- Forney's formula: at each point the evaluator's value is the byte times the slope of the locator there, its
-- derivative.
use Rattle.std.proofs.Common.{◌≡◌, ◌≢◌, ℕ, zero, suc, ◌+◌, ◌-◌, ◌<◌, ◌≤◌, List, [], ◌∷◌, ◌++◌, length, take, drop, get_or, get_or-take, length-take-le, All, refl, sym, ap, subst, ◌∙◌, arith, add-one, inl, inr, w8, Fits}
use Rattle.std.proofs.lemmas.List.{length-drop, get_or-drop, take_more}
use Rattle.std.proofs.lemmas.List.Elements.{All-from_get_or, All-get_or}
use Rattle.std.proofs.lemmas.Simd.{Each1-get_or}
use lib.Lanes.{Each1}
use Rattle.coding.specs.Field.{plus, product, power}
use Rattle.coding.specs.Words.{IsByte, value}
use Rattle.gf_field.proofs.FieldLaws.{one-product, plus-byte, plus-self, plus-zero, plus-zero_same, power-zero, product-assoc, product-byte, product-cancel, product-comm, product-one, product-zero, product-zero_factor, zero-plus, zero-product}
use Rattle.rs_code.proofs.Ring.{ring}
use Rattle.rs_code.proofs.Values.{value-more, value-nil}
use Rattle.rs_code.specs.Inner.PowerSums.{AreDistinct, power_sum}
use Rattle.rs_decode.specs.Inner.Locator.{at_points, distances, slope}
use Rattle.rs_decode.specs.Inner.Sums.{AreSums}
use Rattle.rs_decode.proofs.Combinations.{power_sum-alike, power_sum-taken}
use Rattle.rs_decode.proofs.MarksTakenOut.{AreSums-all, AreSums-shifted_by, at_points-push, distances-byte, distances-push}

-- the lanes of a vector are bytes
pub lanes-bytes : (lanes : List ℕ) → Each1 (Fits w8) lanes → All IsByte lanes
lanes-bytes lanes each = All-from_get_or IsByte lanes 0 (λ k inside. (Each1-get_or (Fits w8) lanes k 0 inside each).fits)

-- ---- a polynomial times (x + a), lane by lane

-- the step to one more coefficient, multiplied out
one_coefficient : (x a v l m : ℕ) → plus (product x (plus (product (plus x a) v) l)) (plus m (product a l)) ≡ plus (product (plus x a) (plus (product x v) l)) m
one_coefficient x a v l m = simp ring

-- Lanes of which each has a times the one before added: with one coefficient more, they are the polynomial times (x +
-- a), and the coefficient that comes after it.
pub value-times_distance : (lanes next : List ℕ) (a x n : ℕ) → n < 32 → length lanes ≡ 32 → length next ≡ 32 → All IsByte lanes → All IsByte next
    → get_or next 0 0 ≡ get_or lanes 0 0 → ((k : ℕ) → k < 31 → get_or next (k + 1) 0 ≡ plus (get_or lanes (k + 1) 0) (product a (get_or lanes k 0)))
    → value (take (n + 1) next) x ≡ plus (product (plus x a) (value (take n lanes) x)) (get_or lanes n 0)
value-times_distance lanes next a x zero below size next_size all next_all first each =
    value-more next 0 x (omega arith) (All-get_or IsByte next 0 0 (omega arith) next_all)
    ∙ rw (value-nil x, product-zero x, product-zero (plus x a), first) refl
value-times_distance lanes next a x (suc n) below size next_size all next_all first each =
    let before : value (take (suc n) next) x ≡ plus (product (plus x a) (value (take n lanes) x)) (get_or lanes n 0) =
    ap (λ m. value (take m next) x) (sym (add-one n)) ∙ value-times_distance lanes next a x n (omega arith) size next_size all next_all first each in
    let here : get_or next (suc n) 0 ≡ plus (get_or lanes (suc n) 0) (product a (get_or lanes n 0)) =
    ap (λ m. get_or next m 0) (sym (add-one n)) ∙ each n (omega arith) ∙ ap (λ m. plus (get_or lanes m 0) (product a (get_or lanes n 0))) (add-one n) in
    let longer : value (take (suc n) lanes) x ≡ plus (product x (value (take n lanes) x)) (get_or lanes n 0) =
    ap (λ m. value (take m lanes) x) (sym (add-one n)) ∙ value-more lanes n x (omega arith) (All-get_or IsByte lanes n 0 (omega arith) all) in
    value-more next (suc n) x (omega arith) (All-get_or IsByte next (suc n) 0 (omega arith) next_all)
    ∙ rw (before, here, longer) (one_coefficient x a (value (take n lanes) x) (get_or lanes n 0) (get_or lanes (suc n) 0))

-- ---- the slope

-- one point more, multiplied out
pushed : (x y a b s d : ℕ) → plus (product (plus x b) (plus (product (plus x a) s) d)) (product d (plus y a)) ≡ plus (product (plus x a) (plus (product (plus x b) s) d)) (product (plus y b) d)
pushed x y a b s d = simp ring

-- one point more, after the others
slope-push : (others : List ℕ) (a x y : ℕ) → slope (others ++ a ∷ []) x y ≡ plus (product (plus x a) (slope others x y)) (distances others y)
unfolding slope distances
slope-push [] a x y = refl
slope-push (b ∷ others) a x y = rw (slope-push others a x y, distances-push others a y) (pushed x y a b (slope others x y) (distances others y))

-- a slope is a byte
slope-byte : (points : List ℕ) (x y : ℕ) → slope points x y < 256
unfolding slope
slope-byte [] x y = omega arith
slope-byte (a ∷ others) x y = plus-byte (product (plus x a) (slope others x y)) (distances others y) (product-byte (plus x a) (slope others x y)) (distances-byte others y)

-- the slope times the distance, with one factor in front
drawn : (x y a s d : ℕ) → product (plus x y) (plus (product (plus x a) s) d) ≡ plus (product (plus x a) (product (plus x y) s)) (product (plus x y) d)
drawn x y a s d = simp ring

-- the difference with one factor more
differ : (x y a dx dy : ℕ) → plus (product (plus x a) (plus dx dy)) (product (plus x y) dy) ≡ plus (product (plus x a) dx) (product (plus y a) dy)
differ x y a dx dy = simp ring

-- times the distance it is the difference of the values
slope-difference : (points : List ℕ) (x y : ℕ) → product (plus x y) (slope points x y) ≡ plus (distances points x) (distances points y)
unfolding slope distances
slope-difference [] x y = product-zero (plus x y) ∙ sym (plus-self 1)
slope-difference (a ∷ others) x y =
    drawn x y a (slope others x y) (distances others y)
    ∙ ap (λ v. plus (product (plus x a) v) (product (plus x y) (distances others y))) (slope-difference others x y)
    ∙ differ x y a (distances others x) (distances others y)

-- the locator vanishes at each of its points
pub distances-at : (points : List ℕ) (i : ℕ) → i < length points → distances points (get_or points i 0) ≡ 0
unfolding distances
distances-at [] i inside = absurd (omega arith)
distances-at (point ∷ points) zero inside = rw (plus-self point) (zero-product (distances points point))
distances-at (point ∷ points) (suc i) inside = rw (distances-at points i (omega arith)) (product-zero (plus (get_or points i 0) point))

-- distinct points differ at different places
pub distinct-at : (points : List ℕ) (i j : ℕ) → AreDistinct points → i < length points → j < length points → i ≢ j → get_or points i 0 ≢ get_or points j 0
unfolding AreDistinct
distinct-at [] i j distinct inside within differ same = absurd (omega arith)
distinct-at (point ∷ points) zero zero distinct inside within differ same = differ refl
distinct-at (point ∷ points) zero (suc j) distinct inside within differ same = All-get_or (λ y. point ≢ y) points j 0 (omega arith) distinct.0 same
distinct-at (point ∷ points) (suc i) zero distinct inside within differ same = All-get_or (λ y. point ≢ y) points i 0 (omega arith) distinct.0 (sym same)
distinct-at (point ∷ points) (suc i) (suc j) distinct inside within differ same =
    distinct-at points i j distinct.1 (omega arith) (omega arith) (λ equal. differ (ap suc equal)) same

-- between two of its points the slope is 0
slope-between : (points : List ℕ) (i j : ℕ) → AreDistinct points → All IsByte points → i < length points → j < length points → j ≢ i
    → slope points (get_or points i 0) (get_or points j 0) ≡ 0
slope-between points i j distinct all inside within differ =
    let x = get_or points i 0 in
    let y = get_or points j 0 in
    let vanishes : product (plus x y) (slope points x y) ≡ 0 =
    slope-difference points x y ∙ rw (distances-at points i inside, distances-at points j within) (plus-zero 0) in
    elim (product-zero_factor (plus x y) (slope points x y) (plus-byte x y (All-get_or IsByte points i 0 inside all) (All-get_or IsByte points j 0 within all)) (slope-byte points x y) vanishes) [
      | inl same ↦ absurd (distinct-at points i j distinct inside within (λ equal. differ (sym equal)) (plus-zero_same x y same))
      | inr none ↦ none
    ]

-- at one of its points it is the product of the distances to the others
pub slope-at : (points : List ℕ) (i : ℕ) → i < length points
    → slope points (get_or points i 0) (get_or points i 0) ≡ product (distances (take i points) (get_or points i 0)) (distances (drop (suc i) points) (get_or points i 0))
unfolding slope distances
slope-at [] i inside = absurd (omega arith)
slope-at (point ∷ points) zero inside =
    rw (plus-self point, zero-product (slope points point point), zero-plus (distances points point))
    (sym (one-product (distances points point) (distances-byte points point)))
slope-at (point ∷ points) (suc i) inside =
    let x = get_or points i 0 in
    rw (slope-at points i (omega arith), distances-at points i (omega arith))
    (plus-zero (product (plus x point) (product (distances (take i points) x) (distances (drop (suc i) points) x)))
    ∙ sym (product-assoc (plus x point) (distances (take i points) x) (distances (drop (suc i) points) x)))

-- a point differs from those before it
pub apart-before : (points : List ℕ) (i : ℕ) → AreDistinct points → i < length points → All (λ other. get_or points i 0 ≢ other) (take i points)
apart-before points i distinct inside =
    All-from_get_or (λ other. get_or points i 0 ≢ other) (take i points) 0 (λ k below.
    let earlier : k < i = omega (arith, length-take-le i points (omega arith)) in
    let other : i ≢ k = omega arith in
    λ same. distinct-at points i k distinct inside (omega arith) other (same ∙ get_or-take i points k 0 earlier))

-- and from those after it
pub apart-after : (points : List ℕ) (i : ℕ) → AreDistinct points → i < length points → All (λ other. get_or points i 0 ≢ other) (drop (i + 1) points)
apart-after points i distinct inside =
    All-from_get_or (λ other. get_or points i 0 ≢ other) (drop (i + 1) points) 0 (λ k below.
    let within : i + 1 + k < length points = omega (arith, length-drop (i + 1) points) in
    let other : i ≢ i + 1 + k = omega arith in
    λ same. distinct-at points i (i + 1 + k) distinct inside within other (same ∙ get_or-drop (i + 1) points k 0))

-- ---- sums of bytes times functions of their points

-- a function that vanishes at all other points picks one byte
pub power_sum-single : (f : ℕ → ℕ) (bytes points : List ℕ) (i : ℕ) → length bytes ≡ length points → i < length points
    → ((j : ℕ) → j < length points → j ≢ i → f (get_or points j 0) ≡ 0) → power_sum (at_points f bytes points) points 0 ≡ product (get_or bytes i 0) (f (get_or points i 0))
unfolding at_points power_sum
power_sum-single f [] points i same inside vanishes = absurd (omega arith)
power_sum-single f (byte ∷ bytes) [] i same inside vanishes = absurd (omega arith)
power_sum-single f (byte ∷ bytes) (point ∷ points) zero same inside vanishes =
    let rest : power_sum (at_points f bytes points) points 0 ≡ 0 = power_sum-taken f bytes points 0 (λ j below some. vanishes (suc j) (omega arith) (λ equal. absurd (omega arith))) in
    rw (rest, power-zero point, product-one (product byte (f point)) (product-byte byte (f point))) (plus-zero (product byte (f point)))
power_sum-single f (byte ∷ bytes) (point ∷ points) (suc i) same inside vanishes =
    let here : f point ≡ 0 = vanishes 0 (omega arith) (λ equal. absurd (omega arith)) in
    rw (here, product-zero byte, zero-product (power point 0), zero-plus (power_sum (at_points f bytes points) points 0))
    (power_sum-single f bytes points i (omega arith) (omega arith) (λ j below other. vanishes (suc j) (omega arith) (λ equal. other (omega (arith, equal)))))

-- the share of one byte, multiplied out
one_share : (b c f g p fs gs : ℕ) → plus (product (product b (plus (product c f) g)) p) (plus (product c fs) gs) ≡ plus (product c (plus (product (product b f) p) fs)) (plus (product (product b g) p) gs)
one_share b c f g p fs gs = simp ring

-- a multiple of a function and another
power_sum-combined : (c : ℕ) (f g : ℕ → ℕ) (bytes points : List ℕ) (k : ℕ)
    → power_sum (at_points (λ y. plus (product c (f y)) (g y)) bytes points) points k ≡ plus (product c (power_sum (at_points f bytes points) points k)) (power_sum (at_points g bytes points) points k)
unfolding at_points power_sum
power_sum-combined c f g [] points k = simp (product-zero, plus-zero)
power_sum-combined c f g (byte ∷ bytes) [] k = simp (product-zero, plus-zero)
power_sum-combined c f g (byte ∷ bytes) (point ∷ points) k =
    rw (power_sum-combined c f g bytes points k)
    (one_share byte c (f point) (g point) (power point k) (power_sum (at_points f bytes points) points k) (power_sum (at_points g bytes points) points k))

-- ---- the evaluator

-- With the first points taken in, the first lanes are the sum of the bytes, each times the slope between its point and
-- x. The others are the sums with these points taken out.
pub record IsEvaluated (points bytes : List ℕ) (n p : ℕ) (lanes : List ℕ) : Type 0 where
  pub values : (x : ℕ) → value (take p lanes) x ≡ power_sum (at_points (slope (take p points) x) bytes points) points 0
  pub left : AreSums points (at_points (distances (take p points)) bytes points) (take (n - p) (drop p lanes))

-- before the first point
pub IsEvaluated-start : (points bytes sums lanes : List ℕ) → take (length sums) lanes ≡ sums → AreSums points bytes sums → IsEvaluated points bytes (length sums) 0 lanes
unfolding slope
IsEvaluated-start points bytes sums lanes is are =
    let none : length sums - 0 ≡ length sums = omega arith in
    record {
      values = λ x. value-nil x ∙ sym (power_sum-taken (slope [] x) bytes points 0 (λ j below some. refl));
      left = AreSums-all points bytes (take (length sums - 0) lanes) (subst (AreSums points bytes) (sym (ap (λ m. take m lanes) none ∙ is)) are);
    }

-- one point more
pub IsEvaluated-next : (points bytes lanes next : List ℕ) (n p : ℕ) → p < length points → length points ≤ n → n ≤ 32 → length lanes ≡ 32 → length next ≡ 32
    → All IsByte lanes → All IsByte next → get_or next 0 0 ≡ get_or lanes 0 0
    → ((k : ℕ) → k < 31 → get_or next (k + 1) 0 ≡ plus (get_or lanes (k + 1) 0) (product (get_or points p 0) (get_or lanes k 0)))
    → IsEvaluated points bytes n p lanes → IsEvaluated points bytes n (p + 1) next
IsEvaluated-next points bytes lanes next n p inside enough room size next_size all next_all first each before =
    let a = get_or points p 0 in
    let used = take p points in
    let sums = take (n - p) (drop p lanes) in
    let after = take (n - (p + 1)) (drop (p + 1) next) in
    let sums_size : length sums ≡ n - p = length-take-le (n - p) (drop p lanes) (omega (arith, length-drop p lanes)) in
    let after_size : length after ≡ n - (p + 1) = length-take-le (n - (p + 1)) (drop (p + 1) next) (omega (arith, length-drop (p + 1) next)) in
    let at : (k : ℕ) → k < n - p → get_or sums k 0 ≡ get_or lanes (p + k) 0 = λ k below. get_or-take (n - p) (drop p lanes) k 0 below ∙ get_or-drop p lanes k 0 in
    let used_next : take (p + 1) points ≡ used ++ a ∷ [] = take_more points p 0 inside in
    record {
      values = λ x.
          let coefficient : get_or lanes p 0 ≡ power_sum (at_points (distances used) bytes points) points 0 =
          ap (λ k. get_or lanes k 0) (let same : p ≡ p + 0 = omega arith in same) ∙ sym (at 0 (omega arith)) ∙ sym (before.left.sums_are 0 (omega arith)) in
          value-times_distance lanes next a x p (omega arith) size next_size all next_all first each
          ∙ rw (before.values x, coefficient) (sym (power_sum-combined (plus x a) (slope used x) (distances used) bytes points 0))
          ∙ power_sum-alike (λ y. plus (product (plus x a) (slope used x y)) (distances used y)) (slope (take (p + 1) points) x) bytes points 0
          (λ y. sym (ap (λ xs. slope xs x y) used_next ∙ slope-push used a x y));
      left =
          subst (λ xs. AreSums points xs after) (sym (ap (λ xs. at_points (distances xs) bytes points) used_next ∙ at_points-push used a bytes points))
          (AreSums-shifted_by a points (at_points (distances used) bytes points) sums after (omega arith)
          (λ k below.
          let here : p + 1 + k ≡ p + k + 1 = omega arith in
          let later : p + (k + 1) ≡ p + k + 1 = omega arith in
          get_or-take (n - (p + 1)) (drop (p + 1) next) k 0 (omega arith) ∙ get_or-drop (p + 1) next k 0
          ∙ ap (λ j. get_or next j 0) here ∙ each (p + k) (omega arith)
          ∙ rw (at k (omega arith), at (k + 1) (omega arith), later) refl) before.left);
    }

-- all points taken in: the value at a point is its byte times the slope there, so the quotient of the two is the byte
pub byte-found : (points bytes lanes : List ℕ) (i d found : ℕ) → AreDistinct points → All IsByte points → All IsByte bytes → length bytes ≡ length points → i < length points
    → ((x : ℕ) → value (take (length points) lanes) x ≡ power_sum (at_points (slope points x) bytes points) points 0)
    → d ≡ slope points (get_or points i 0) (get_or points i 0) → d ≢ 0 → found < 256
    → product found d ≡ value (take (length points) lanes) (get_or points i 0) → get_or bytes i 0 ≡ found
byte-found points bytes lanes i d found distinct all all_bytes same inside values is_slope nonzero is_byte divided =
    let x = get_or points i 0 in
    let byte = get_or bytes i 0 in
    let picked : value (take (length points) lanes) x ≡ product byte (slope points x x) =
    values x ∙ power_sum-single (slope points x) bytes points i same inside (λ j below other. slope-between points i j distinct all inside below other) in
    let below : d < 256 = subst (λ v. v < 256) (sym is_slope) (slope-byte points x x) in
    product-cancel d byte found below (All-get_or IsByte bytes i 0 (omega arith) all_bytes) is_byte nonzero
    (product-comm d byte ∙ ap (product byte) is_slope ∙ sym picked ∙ sym divided ∙ product-comm found d)
