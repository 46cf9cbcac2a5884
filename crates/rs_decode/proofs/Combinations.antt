-- Bytes multiplied by a function of their points: by the distance to marked points, and by the values of a polynomial.
-- Their power sums are combinations of the old ones: the connections of the register whose taps are the coefficients.
use Rattle.std.proofs.Common.{◌≡◌, ◌≢◌, ℕ, zero, suc, ◌+◌, ◌-◌, ◌<◌, ◌≤◌, List, [], ◌∷◌, length, get_or, All, refl, sym, ap, ◌∙◌, arith, inl, inr}
use Rattle.std.proofs.lemmas.Bool.{cases_eq}
use Rattle.std.proofs.lemmas.List.Elements.{All-cons, All-nil}
use Rattle.std.proofs.lemmas.Bool.Decides.{nat_tests}
use Rattle.coding.specs.Field.{plus, product, power}
use Rattle.coding.specs.Words.{IsByte, value}
use Rattle.gf_field.proofs.FieldLaws.{plus-zero, product-byte, product-zero, zero-product, power-add}
use Rattle.coding.specs.Distance.{weight}
use Rattle.rs_code.proofs.Ring.{ring}
use Rattle.rs_code.proofs.Values.{value-nil, value-cons}
use Rattle.rs_code.specs.Inner.PowerSums.{power_sum}
use Rattle.rs_decode.specs.Inner.Locator.{at_points}
use Rattle.rs_decode.specs.Register.{total, connection}
use Rattle.rs_decode.specs.Inner.Sums.{AreSums}
use Rattle.rs_decode.proofs.Connections.{connection-total}
use Rattle.rs_decode.proofs.Totals.{total-head, total-none, total-same}

-- with a factor for each byte there are as many bytes as before
pub length-at_points : (f : ℕ → ℕ) (bytes points : List ℕ) → length bytes ≡ length points → length (at_points f bytes points) ≡ length bytes
unfolding at_points
length-at_points f [] points same = refl
length-at_points f (byte ∷ bytes) [] same = absurd (omega arith)
length-at_points f (byte ∷ bytes) (point ∷ points) same = ap suc (length-at_points f bytes points (omega arith))

-- with a factor for each byte they are still bytes
pub All-at_points : (f : ℕ → ℕ) (bytes points : List ℕ) → All IsByte (at_points f bytes points)
unfolding at_points
All-at_points f [] points = All-nil IsByte
All-at_points f (byte ∷ bytes) [] = All-nil IsByte
All-at_points f (byte ∷ bytes) (point ∷ points) =
    All-cons IsByte (product byte (f point)) (at_points f bytes points) (product-byte byte (f point)) (All-at_points f bytes points)

-- each byte is multiplied by the function's value at its point
pub get_or-at_points : (f : ℕ → ℕ) (bytes points : List ℕ) (j : ℕ)
    → length bytes ≡ length points
    → j < length bytes
    → get_or (at_points f bytes points) j 0 ≡ product (get_or bytes j 0) (f (get_or points j 0))
unfolding at_points
get_or-at_points f [] points j same inside = absurd (omega arith)
get_or-at_points f (byte ∷ bytes) [] j same inside = absurd (omega arith)
get_or-at_points f (byte ∷ bytes) (point ∷ points) zero same inside = refl
get_or-at_points f (byte ∷ bytes) (point ∷ points) (suc j) same inside = get_or-at_points f bytes points j (omega arith) (omega arith)

-- a function that is 0 wherever a byte isn't takes all bytes, and their power sums, to 0
pub power_sum-taken : (f : ℕ → ℕ) (bytes points : List ℕ) (k : ℕ)
    → ((j : ℕ) → j < length bytes → get_or bytes j 0 ≢ 0 → f (get_or points j 0) ≡ 0) → power_sum (at_points f bytes points) points k ≡ 0
unfolding at_points power_sum
power_sum-taken f [] points k taken = refl
power_sum-taken f (byte ∷ bytes) [] k taken = refl
power_sum-taken f (byte ∷ bytes) (point ∷ points) k taken =
    let here : product byte (f point) ≡ 0 =
    elim (cases_eq byte 0) [
      | inl none ↦ ap (λ b. product b (f point)) none ∙ zero-product (f point)
      | inr some ↦ ap (product byte) (taken 0 (omega arith) some) ∙ product-zero byte
    ] in
    let rest = power_sum-taken f bytes points k (λ j below. taken (suc j) (omega arith)) in
    rw (here, rest, zero-product (power point k)) (plus-zero 0)

-- functions that agree give the same power sums
pub power_sum-alike : (f g : ℕ → ℕ) (bytes points : List ℕ) (k : ℕ) → ((x : ℕ) → f x ≡ g x)
    → power_sum (at_points f bytes points) points k ≡ power_sum (at_points g bytes points) points k
unfolding at_points power_sum
power_sum-alike f g [] points k alike = refl
power_sum-alike f g (byte ∷ bytes) [] k alike = refl
power_sum-alike f g (byte ∷ bytes) (point ∷ points) k alike =
    ap (λ v. plus (product (product byte v) (power point k)) (power_sum (at_points f bytes points) points k)) (alike point)
    ∙ ap (plus (product (product byte (g point)) (power point k))) (power_sum-alike f g bytes points k alike)

-- the share of the first byte in the sum with one more coefficient, multiplied out
one_more : (byte c high v up sum rest : ℕ)
    → plus (product (product byte (plus (product c high) v)) up) (plus (product c sum) rest) ≡ plus (product c (plus (product byte (product up high)) sum)) (plus (product (product byte v) up) rest)
one_more byte c high v up sum rest = simp ring

-- a polynomial with one more coefficient
power_sum-coefficient : (c : ℕ) (cs bytes points : List ℕ) (k : ℕ)
    → power_sum (at_points (value (c ∷ cs)) bytes points) points k ≡ plus (product c (power_sum bytes points (k + length cs))) (power_sum (at_points (value cs) bytes points) points k)
unfolding at_points power_sum
power_sum-coefficient c cs [] points k = simp (product-zero, plus-zero)
power_sum-coefficient c cs (byte ∷ bytes) [] k = simp (product-zero, plus-zero)
power_sum-coefficient c cs (byte ∷ bytes) (point ∷ points) k =
    rw (power_sum-coefficient c cs bytes points k, value-cons c cs point, power-add point k (length cs))
    (one_more byte c (power point (length cs)) (value cs point) (power point k) (power_sum bytes points (k + length cs)) (power_sum (at_points (value cs) bytes points) points k))

-- the sums that end at a place, each times a coefficient, are the power sum of the bytes times the polynomial's values
total-sums : (taps sums bytes points : List ℕ) (k : ℕ) → k + length taps ≤ length sums → AreSums points bytes sums
    → total (length taps) (λ i. product (get_or taps i 0) (get_or sums (k + length taps - suc i) 0)) ≡ power_sum (at_points (value taps) bytes points) points k
total-sums [] sums bytes points k fits are =
    total-none _ ∙ sym (power_sum-taken (value []) bytes points k (λ j below some. value-nil (get_or points j 0)))
total-sums (c ∷ cs) sums bytes points k fits are =
    let f : ℕ → ℕ = λ i. product (get_or (c ∷ cs) i 0) (get_or sums (k + length (c ∷ cs) - suc i) 0) in
    let last : k + length (c ∷ cs) - 1 ≡ k + length cs = omega arith in
    total-head (length cs) f
    ∙ ap (λ j. plus (product c (get_or sums j 0)) (total (length cs) (λ i. f (suc i)))) last
    ∙ ap (λ s. plus (product c s) (total (length cs) (λ i. f (suc i)))) (sym (are.sums_are (k + length cs) (omega arith)))
    ∙ ap (plus (product c (power_sum bytes points (k + length cs))))
    (total-same (length cs) (λ i. f (suc i)) (λ i. product (get_or cs i 0) (get_or sums (k + length cs - suc i) 0)) (λ i below.
    let place : k + length (c ∷ cs) - suc (suc i) ≡ k + length cs - suc i = omega arith in
    ap (λ j. product (get_or cs i 0) (get_or sums j 0)) place)
    ∙ total-sums cs sums bytes points k (omega arith) are)
    ∙ sym (power_sum-coefficient c cs bytes points k)

-- so is a register's connection
pub connection-sums : (len : ℕ) (taps sums bytes points : List ℕ) (n : ℕ) → length taps ≡ len + 1 → len ≤ n → n < length sums → AreSums points bytes sums
    → connection len taps sums n ≡ power_sum (at_points (value taps) bytes points) points (n - len)
connection-sums len taps sums bytes points n size reached inside are =
    connection-total len taps sums n
    ∙ ap (λ m. total m (λ i. product (get_or taps i 0) (get_or sums (n - i) 0))) (sym size)
    ∙ total-same (length taps) (λ i. product (get_or taps i 0) (get_or sums (n - i) 0)) (λ i. product (get_or taps i 0) (get_or sums (n - len + length taps - suc i) 0)) (λ i below.
    let place : n - i ≡ n - len + length taps - suc i = omega arith in
    ap (λ j. product (get_or taps i 0) (get_or sums j 0)) place)
    ∙ total-sums taps sums bytes points (n - len) (omega arith) are

-- no more bytes than before aren't 0, since zeros stay zeros
pub weight-at_points : (f : ℕ → ℕ) (bytes points : List ℕ) → weight (at_points f bytes points) ≤ weight bytes
unfolding at_points weight
weight-at_points f [] points = omega arith
weight-at_points f (byte ∷ bytes) [] = omega arith
weight-at_points f (zero ∷ bytes) (point ∷ points) =
    let e : product 0 (f point) ≡ 0 = zero-product (f point) in
    rw e (omega (arith, weight-at_points f bytes points))
weight-at_points f (suc byte ∷ bytes) (point ∷ points) =
    let rest : weight (at_points f bytes points) ≤ weight bytes = weight-at_points f bytes points in
    grind (arith, nat_tests, rest)
