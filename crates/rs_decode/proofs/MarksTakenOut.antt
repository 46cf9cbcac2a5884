-- The marked places taken out: each byte is multiplied by the distances of its point to the marked points.
-- At a marked place that is 0, and elsewhere a byte that isn't 0 stays so.
use Rattle.std.proofs.Common.{◌≡◌, ◌≢◌, ℕ, zero, suc, ◌+◌, ◌<◌, ◌≤◌, Bool, true, false, List, [], ◌∷◌, ◌++◌, length, ◌-◌, get_or, take, All, refl, sym, ap, subst, ◌∙◌, arith, add-one, length-take, length-take-le, get_or-take, inl, inr, ◌==◌, if◌then◌else◌}
use Rattle.std.proofs.lemmas.Bool.{cases_eq, false≢true}
use Rattle.std.proofs.lemmas.Bool.Decides.{nat_tests}
use Rattle.std.proofs.lemmas.List.{take_more}
use Rattle.std.proofs.lemmas.List.Elements.{All-head, All-tail, All-cons, All-nil, All-get_or}
use Rattle.coding.specs.Field.{plus, product, power}
use Rattle.coding.specs.Words.{IsByte}
use Rattle.gf_field.proofs.FieldLaws.{plus-byte, one-product, plus-self, plus-zero_same, power-byte, product-assoc, product-byte, product-comm, product-zero, zero-product, product-zero_factor}
use Rattle.coding.specs.Distance.{weight}
use Rattle.rs_code.specs.Inner.PowerSums.{AreDistinct, shifted_by, power_sum}
use Rattle.rs_code.proofs.PowerSums.{power_sum-shifted_by}
use Rattle.rs_decode.specs.Errors.{error_count}
use Rattle.rs_decode.specs.Inner.Places.{picked}
use Rattle.rs_decode.specs.Inner.Locator.{at_points, distances}
use Rattle.rs_decode.specs.Inner.Sums.{AreSums}
use Rattle.rs_decode.proofs.Marks.{All-picked}

-- a product of distances is a byte
pub distances-byte : (others : List ℕ) (x : ℕ) → distances others x < 256
unfolding distances
distances-byte [] x = omega arith
distances-byte (a ∷ others) x = product-byte (plus x a) (distances others x)

-- one point more is its distance as one factor more
pub distances-push : (others : List ℕ) (a x : ℕ) → distances (others ++ a ∷ []) x ≡ product (distances others x) (plus x a)
unfolding distances
distances-push [] a x = product-comm (plus x a) 1
distances-push (b ∷ others) a x =
    ap (product (plus x b)) (distances-push others a x) ∙ sym (product-assoc (plus x b) (distances others x) (plus x a))

-- one point more is one factor more for each byte
pub at_points-push : (others : List ℕ) (a : ℕ) (bytes points : List ℕ) → at_points (distances (others ++ a ∷ [])) bytes points
    ≡ shifted_by a (at_points (distances others) bytes points) points
unfolding at_points shifted_by
at_points-push others a [] points = refl
at_points-push others a (byte ∷ bytes) [] = refl
at_points-push others a (byte ∷ bytes) (point ∷ points) =
    let here : product byte (distances (others ++ a ∷ []) point) ≡ product (product byte (distances others point)) (plus point a) =
    ap (product byte) (distances-push others a point) ∙ sym (product-assoc byte (distances others point) (plus point a)) in
    let rest = at_points-push others a bytes points in
    cc

-- the sums with a point taken out: each is the next one and the point times this one
pub AreSums-shifted_by : (a : ℕ) (points bytes sums after : List ℕ)
    → length after + 1 ≡ length sums
    → ((k : ℕ) → k < length after → get_or after k 0 ≡ plus (get_or sums (k + 1) 0) (product a (get_or sums k 0)))
    → AreSums points bytes sums
    → AreSums points (shifted_by a bytes points) after
AreSums-shifted_by a points bytes sums after shorter are_after are = record {
  sums_are = λ k below.
      let next : power_sum bytes points (suc k) ≡ get_or sums (k + 1) 0 = are.sums_are (suc k) (omega arith) ∙ rw add-one refl in
      power_sum-shifted_by a bytes points k ∙ rw (next, are.sums_are k (omega arith)) (sym (are_after k below));
}

-- with no points to be distant from, the power sums stay
power_sum-whole : (bytes points : List ℕ) (k : ℕ) → power_sum (at_points (distances []) bytes points) points k ≡ power_sum bytes points k
unfolding at_points distances power_sum
power_sum-whole [] points k = refl
power_sum-whole (byte ∷ bytes) [] k = refl
power_sum-whole (byte ∷ bytes) (point ∷ points) k =
    let once : product (product byte 1) (power point k) ≡ product byte (power point k) =
    product-assoc byte 1 (power point k) ∙ ap (product byte) (one-product (power point k) (power-byte point k)) in
    rw (once, power_sum-whole bytes points k) refl

-- with no points taken out the sums stay
pub AreSums-all : (points bytes sums : List ℕ) → AreSums points bytes sums → AreSums points (at_points (distances []) bytes points) sums
AreSums-all points bytes sums are = record {
  sums_are = λ k below. power_sum-whole bytes points k ∙ are.sums_are k below;
}

-- the sums with one point more taken out, as a loop that takes the last sum off has them
pub AreSums-next : (points bytes sums shifted after others : List ℕ) (i : ℕ)
    → i < length others
    → 0 < length sums
    → length shifted ≡ length sums
    → ((k : ℕ) → k + 1 < length sums → get_or shifted k 0 ≡ plus (get_or sums (k + 1) 0) (product (get_or others i 0) (get_or sums k 0)))
    → after ≡ take (length shifted - 1) shifted
    → AreSums points (at_points (distances (take i others)) bytes points) sums
    → AreSums points (at_points (distances (take (i + 1) others)) bytes points) after
AreSums-next points bytes sums shifted after others i inside some same are_shifted after_is are =
    let longer : at_points (distances (take (i + 1) others)) bytes points ≡ shifted_by (get_or others i 0) (at_points (distances (take i others)) bytes points) points =
    ap (λ xs. at_points (distances xs) bytes points) (take_more others i 0 inside) ∙ at_points-push (take i others) (get_or others i 0) bytes points in
    let size : length after + 1 ≡ length sums = omega (arith, ap length after_is, length-take (length shifted - 1) shifted) in
    subst (λ xs. AreSums points xs after) (sym longer)
    (AreSums-shifted_by (get_or others i 0) points (at_points (distances (take i others)) bytes points) sums after size
    (λ k below. ap (λ xs. get_or xs k 0) after_is ∙ get_or-take (length shifted - 1) shifted k 0 (omega arith) ∙ are_shifted k (omega arith)) are)

-- the same as a loop over lanes has it, of which the first have the sums
pub AreSums-next_lanes : (points bytes lanes next others : List ℕ) (n i : ℕ)
    → i < length others
    → length others ≤ n
    → n ≤ 16
    → length lanes ≡ 16
    → length next ≡ 16
    → ((k : ℕ) → k < 15 → get_or next k 0 ≡ plus (get_or lanes (k + 1) 0) (product (get_or others i 0) (get_or lanes k 0)))
    → AreSums points (at_points (distances (take i others)) bytes points) (take (n - i) lanes)
    → AreSums points (at_points (distances (take (i + 1) others)) bytes points) (take (n - (i + 1)) next)
AreSums-next_lanes points bytes lanes next others n i inside enough few size next_size taken_out are =
    let longer : at_points (distances (take (i + 1) others)) bytes points ≡ shifted_by (get_or others i 0) (at_points (distances (take i others)) bytes points) points =
    ap (λ xs. at_points (distances xs) bytes points) (take_more others i 0 inside) ∙ at_points-push (take i others) (get_or others i 0) bytes points in
    let sums = take (n - i) lanes in
    let after = take (n - (i + 1)) next in
    let sums_size : length sums ≡ n - i = length-take-le (n - i) lanes (omega arith) in
    let after_size : length after ≡ n - (i + 1) = length-take-le (n - (i + 1)) next (omega arith) in
    subst (λ xs. AreSums points xs after) (sym longer)
    (AreSums-shifted_by (get_or others i 0) points (at_points (distances (take i others)) bytes points) sums after (omega arith)
    (λ k below.
    let here : get_or sums k 0 ≡ get_or lanes k 0 = get_or-take (n - i) lanes k 0 (omega arith) in
    let above : get_or sums (k + 1) 0 ≡ get_or lanes (k + 1) 0 = get_or-take (n - i) lanes (k + 1) 0 (omega arith) in
    get_or-take (n - (i + 1)) next k 0 (omega arith) ∙ taken_out k (omega arith) ∙ rw (here, above) refl) are)

-- the product of distances from a point to others, none of which it is, isn't 0
pub distances-apart : (others : List ℕ) (x : ℕ) → IsByte x → All IsByte others → All (λ a. x ≢ a) others → distances others x ≢ 0
unfolding distances
distances-apart [] x byte_x all apart is_zero = absurd (omega arith)
distances-apart (a ∷ others) x byte_x all apart is_zero =
    elim (product-zero_factor (plus x a) (distances others x) (plus-byte x a byte_x (All-head IsByte a others all)) (distances-byte others x) is_zero) [
      | inl same ↦ All-head (λ b. x ≢ b) a others apart (plus-zero_same x a same)
      | inr rest ↦ distances-apart others x byte_x (All-tail IsByte a others all) (All-tail (λ b. x ≢ b) a others apart) rest
    ]

-- the point of an unmarked place is none of the marked ones
picked-apart : (marks : List Bool) (points : List ℕ) (k : ℕ) → AreDistinct points → k < length points → get_or marks k false ≡ false
    → All (λ a. get_or points k 0 ≢ a) (picked marks points)
unfolding picked AreDistinct
picked-apart [] points k distinct inside clear = All-nil (λ a. get_or points k 0 ≢ a)
picked-apart (mark ∷ marks) [] k distinct inside clear = absurd (omega arith)
picked-apart (true ∷ marks) (point ∷ points) zero distinct inside clear = absurd (false≢true (sym clear))
picked-apart (false ∷ marks) (point ∷ points) zero distinct inside clear = All-picked (λ a. point ≢ a) marks points distinct.0
picked-apart (true ∷ marks) (point ∷ points) (suc k) distinct inside clear =
    All-cons (λ a. get_or points k 0 ≢ a) point (picked marks points)
    (λ same. All-get_or (λ a. point ≢ a) points k 0 (omega arith) distinct.0 (sym same))
    (picked-apart marks points k distinct.1 (omega arith) clear)
picked-apart (false ∷ marks) (point ∷ points) (suc k) distinct inside clear = picked-apart marks points k distinct.1 (omega arith) clear

-- at a marked place the product of distances is 0
pub distances-marked : (marks : List Bool) (points : List ℕ) (k : ℕ) → k < length points → get_or marks k false ≡ true → distances (picked marks points) (get_or points k 0) ≡ 0
unfolding picked distances
distances-marked [] points k inside mark_is = absurd (false≢true mark_is)
distances-marked (mark ∷ marks) [] k inside mark_is = absurd (omega arith)
distances-marked (true ∷ marks) (point ∷ points) zero inside mark_is = rw (plus-self point) (zero-product (distances (picked marks points) point))
distances-marked (false ∷ marks) (point ∷ points) zero inside mark_is = absurd (false≢true mark_is)
distances-marked (true ∷ marks) (point ∷ points) (suc k) inside mark_is =
    rw (distances-marked marks points k (omega arith) mark_is) (product-zero (plus (get_or points k 0) point))
distances-marked (false ∷ marks) (point ∷ points) (suc k) inside mark_is = distances-marked marks points k (omega arith) mark_is

-- at an unmarked place it isn't 0
pub distances-unmarked : (marks : List Bool) (points : List ℕ) (k : ℕ)
    → AreDistinct points
    → All IsByte points
    → k < length points
    → get_or marks k false ≡ false
    → distances (picked marks points) (get_or points k 0) ≢ 0
distances-unmarked marks points k distinct all inside clear =
    distances-apart (picked marks points) (get_or points k 0) (All-get_or IsByte points k 0 inside all) (All-picked IsByte marks points all) (picked-apart marks points k distinct inside clear)

-- a byte that is 0 where the words agree weighs no more than the words differ
weighs : (x y got w e : ℕ) → (y ≡ got → x ≡ 0) → w ≤ e → (if x == 0 then 0 else 1) + w ≤ (if y == got then 0 else 1) + e
weighs x y got w e zero_there below =
    elim (cases_eq y got) [
      | inl same ↦ let is_zero = zero_there same in grind (arith, nat_tests)
      | inr differ ↦ grind (arith, nat_tests)
    ]

-- bytes that are 0 at marked places and where two words agree are at most as many as the errors
pub weight-error_count : (xs received word : List ℕ) (marks : List Bool)
    → length received ≡ length xs
    → length word ≡ length xs
    → length marks ≡ length xs
    → ((k : ℕ) → k < length xs → get_or marks k false ≡ true → get_or xs k 0 ≡ 0)
    → ((k : ℕ) → k < length xs → get_or marks k false ≡ false → get_or word k 0 ≡ get_or received k 0 → get_or xs k 0 ≡ 0)
    → weight xs ≤ error_count received word marks
unfolding weight error_count
weight-error_count [] received word marks size_r size_w size_m at_marked at_same = omega arith
weight-error_count (x ∷ xs) [] word marks size_r size_w size_m at_marked at_same = absurd (omega arith)
weight-error_count (x ∷ xs) (got ∷ received) [] marks size_r size_w size_m at_marked at_same = absurd (omega arith)
weight-error_count (x ∷ xs) (got ∷ received) (y ∷ word) [] size_r size_w size_m at_marked at_same = absurd (omega arith)
weight-error_count (x ∷ xs) (got ∷ received) (y ∷ word) (true ∷ marks) size_r size_w size_m at_marked at_same =
    let rest = weight-error_count xs received word marks (omega arith) (omega arith) (omega arith) (λ k below. at_marked (suc k) (omega arith)) (λ k below. at_same (suc k) (omega arith)) in
    let first : x ≡ 0 = at_marked 0 (omega arith) refl in
    grind (arith, nat_tests)
weight-error_count (x ∷ xs) (got ∷ received) (y ∷ word) (false ∷ marks) size_r size_w size_m at_marked at_same =
    weighs x y got (weight xs) (error_count received word marks) (at_same 0 (omega arith) refl)
    (weight-error_count xs received word marks (omega arith) (omega arith) (omega arith) (λ k below. at_marked (suc k) (omega arith)) (λ k below. at_same (suc k) (omega arith)))
