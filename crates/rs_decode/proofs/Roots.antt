-- A polynomial that isn't 0 has fewer zeros than coefficients.
-- With a zero a taken out by division by (x + a), it has one coefficient less and its other zeros. The division is
-- plain where the lowest power is first, so the polynomial is turned round for it.
use Rattle.std.proofs.Common.{◌≡◌, ◌≢◌, ℕ, zero, suc, ◌+◌, ◌-◌, ◌<◌, ◌≤◌, List, [], ◌∷◌, ◌++◌, length, get_or, reverse, All, replicate, refl, sym, ap, subst, ◌∙◌, arith, inl, inr, ◌==◌, if◌then◌else◌}
use Rattle.std.proofs.lemmas.List.{length-reverse, get_or-reverse, get_or-replicate}
use Rattle.std.proofs.lemmas.Grind.{reverse_onto}
use Rattle.std.proofs.lemmas.Bool.{cases_eq}
use Rattle.std.proofs.lemmas.Bool.Decides.{nat_tests}
use Rattle.std.proofs.lemmas.List.Elements.{All-head, All-tail, All-cons, All-nil, All-get_or, All-from_get_or}
use Rattle.coding.specs.Field.{plus, product, power}
use Rattle.coding.specs.Words.{IsByte, value}
use Rattle.gf_field.proofs.FieldLaws.{plus-byte, plus-comm, plus-zero, plus-zero_same, power-suc, power-zero, product-byte, product-one, product-zero, product-zero_factor}
use Rattle.rs_code.proofs.Ring.{ring}
use Rattle.rs_code.proofs.Values.{value-nil, value-cons}
use Rattle.rs_code.specs.Inner.PowerSums.{AreDistinct}
use Rattle.rs_decode.specs.Register.{total}
use Rattle.rs_decode.proofs.Totals.{total-head, total-none, total-product, total-same}

-- the polynomial's value at x, the lowest power first
polynomial_at : List ℕ → ℕ → ℕ
polynomial_at [] x = 0
polynomial_at (coefficient ∷ rest) x = plus coefficient (product x (polynomial_at rest x))

-- a value of a polynomial of bytes is a byte
polynomial_at-byte : (coefficients : List ℕ) (x : ℕ) → All IsByte coefficients → polynomial_at coefficients x < 256
unfolding polynomial_at
polynomial_at-byte [] x all = omega arith
polynomial_at-byte (c ∷ cs) x all = plus-byte c (product x (polynomial_at cs x)) (All-head IsByte c cs all) (product-byte x (polynomial_at cs x))

-- the values at a of the coefficients from each place on. Where a is a zero of a polynomial, and these are its
-- coefficients but for the lowest, they are the quotient by (x + a).
quotient : ℕ → List ℕ → List ℕ
quotient a [] = []
quotient a (c ∷ cs) = polynomial_at (c ∷ cs) a ∷ quotient a cs

-- there are as many such values as coefficients
length-quotient : (a : ℕ) (cs : List ℕ) → length (quotient a cs) ≡ length cs
unfolding quotient
length-quotient a [] = refl
length-quotient a (c ∷ cs) = ap suc (length-quotient a cs)

-- they are bytes
All-quotient : (a : ℕ) (cs : List ℕ) → All IsByte cs → All IsByte (quotient a cs)
unfolding quotient
All-quotient a [] all = All-nil IsByte
All-quotient a (c ∷ cs) all =
    All-cons IsByte (polynomial_at (c ∷ cs) a) (quotient a cs) (polynomial_at-byte (c ∷ cs) a all) (All-quotient a cs (All-tail IsByte c cs all))

-- one more coefficient on both sides of the division's law, multiplied out
divided : (x a d at_x at_a q : ℕ)
    → product (plus x a) q ≡ plus (product x at_x) (product a at_a)
    → product (plus x a) (plus (plus d (product a at_a)) (product x q)) ≡ plus (product x (plus d (product x at_x))) (product a (plus d (product a at_a)))
divided x a d at_x at_a q rest =
    let first : product (plus x a) (plus (plus d (product a at_a)) (product x q)) ≡ plus (product (plus x a) (plus d (product a at_a))) (product x (product (plus x a) q)) = simp ring in
    first ∙ rw rest (simp ring)

-- the division's law
quotient-law : (x a : ℕ) (cs : List ℕ) → product (plus x a) (polynomial_at (quotient a cs) x) ≡ plus (product x (polynomial_at cs x)) (product a (polynomial_at cs a))
unfolding quotient polynomial_at
quotient-law x a [] = simp (product-zero, plus-zero)
quotient-law x a (d ∷ ds) = divided x a d (polynomial_at ds x) (polynomial_at ds a) (polynomial_at (quotient a ds) x) (quotient-law x a ds)

-- the number of a function's zeros among the points
unfoldable pub zeros_among : (ℕ → ℕ) → List ℕ → ℕ
zeros_among f [] = 0
zeros_among f (x ∷ xs) = (if f x == 0 then 1 else 0) + zeros_among f xs

-- a polynomial of zeros is 0 everywhere
polynomial_at-zeros : (n x : ℕ) → polynomial_at (replicate n 0) x ≡ 0
unfolding polynomial_at
polynomial_at-zeros zero x = refl
polynomial_at-zeros (suc n) x = simp (polynomial_at-zeros n x, product-zero)

-- a quotient that is 0 comes from a polynomial that is 0 but for its lowest coefficient
zeros_from_quotient : (a : ℕ) (cs : List ℕ) → quotient a cs ≡ replicate (length cs) 0 → cs ≡ replicate (length cs) 0
unfolding quotient polynomial_at
zeros_from_quotient a [] zeros = refl
zeros_from_quotient a (d ∷ ds) zeros =
    let here : plus d (product a (polynomial_at ds a)) ≡ 0 = cc in
    let later : quotient a ds ≡ replicate (length ds) 0 = cc in
    let rest = zeros_from_quotient a ds later in
    let none : product a (polynomial_at ds a) ≡ 0 = ap (λ xs. product a (polynomial_at xs a)) rest ∙ rw (polynomial_at-zeros (length ds) a) (product-zero a) in
    let first : d ≡ 0 = plus-zero_same d (product a (polynomial_at ds a)) here ∙ none in
    cc

-- two numbers, each of which is 0 where the other is, are counted alike
same_tests : (p q : ℕ) → (p ≡ 0 → q ≡ 0) → (q ≡ 0 → p ≡ 0) → (n m : ℕ) → n ≡ m → (if p == 0 then 1 else 0) + n ≡ (if q == 0 then 1 else 0) + m
same_tests p q onward back n m same =
    elim (cases_eq q 0) [
      | inl is_zero ↦ let p_zero = back is_zero in grind (arith, nat_tests)
      | inr not_zero ↦ let p_not : p ≢ 0 = λ e. not_zero (onward e) in grind (arith, nat_tests)
    ]

-- with a zero taken out, the zeros at all other points stay
same_zeros : (a c : ℕ) (cs xs : List ℕ)
    → IsByte a
    → All IsByte cs
    → All IsByte xs
    → All (λ y. a ≢ y) xs
    → polynomial_at (c ∷ cs) a ≡ 0
    → zeros_among (polynomial_at (c ∷ cs)) xs ≡ zeros_among (polynomial_at (quotient a cs)) xs
unfolding zeros_among polynomial_at
same_zeros a c cs [] byte_a all all_points apart root = refl
same_zeros a c cs (y ∷ xs) byte_a all all_points apart root =
    let low : c ≡ product a (polynomial_at cs a) = plus-zero_same c (product a (polynomial_at cs a)) root in
    let factor : plus c (product y (polynomial_at cs y)) ≡ product (plus y a) (polynomial_at (quotient a cs) y) =
    ap (λ s. plus s (product y (polynomial_at cs y))) low ∙ plus-comm (product a (polynomial_at cs a)) (product y (polynomial_at cs y)) ∙ sym (quotient-law y a cs) in
    let byte_y = All-head IsByte y xs all_points in
    let differ : plus y a ≢ 0 = λ same. All-head (λ z. a ≢ z) y xs apart (sym (plus-zero_same y a same)) in
    same_tests (plus c (product y (polynomial_at cs y))) (polynomial_at (quotient a cs) y)
    (λ is_zero. elim (product-zero_factor (plus y a) (polynomial_at (quotient a cs) y) (plus-byte y a byte_y byte_a) (polynomial_at-byte (quotient a cs) y (All-quotient a cs all)) (sym factor ∙ is_zero)) [
      | inl no_distance ↦ absurd (differ no_distance)
      | inr is ↦ is
    ])
    (λ is_zero. factor ∙ rw is_zero (product-zero (plus y a)))
    _ _ (same_zeros a c cs xs byte_a all (All-tail IsByte y xs all_points) (All-tail (λ z. a ≢ z) y xs apart) root)

-- a point counts as one zero at most
one_at_most : (p n m : ℕ) → n ≡ m → (if p == 0 then 1 else 0) + n ≤ 1 + m
one_at_most p n m same = grind (arith, nat_tests)

-- a point where the value isn't 0 doesn't count
not_counted : (p n : ℕ) → p ≢ 0 → (if p == 0 then 1 else 0) + n ≡ n
not_counted p n not_zero = grind (arith, nat_tests)

-- a polynomial whose higher coefficients are 0 is 0 where it has a zero
all_zero : (c x : ℕ) (cs : List ℕ) → polynomial_at (c ∷ cs) x ≡ 0 → cs ≡ replicate (length cs) 0 → c ∷ cs ≡ replicate (length (c ∷ cs)) 0
unfolding polynomial_at
all_zero c x cs root zeros =
    let none : product x (polynomial_at cs x) ≡ 0 = ap (λ xs. product x (polynomial_at xs x)) zeros ∙ rw (polynomial_at-zeros (length cs) x) (product-zero x) in
    let first : c ≡ 0 = plus-zero_same c (product x (polynomial_at cs x)) root ∙ none in
    cc

-- a polynomial that isn't 0, the lowest power first, has fewer zeros than coefficients
few_lowest_first : (points coefficients : List ℕ)
    → AreDistinct points
    → All IsByte points
    → All IsByte coefficients
    → (coefficients ≡ replicate (length coefficients) 0 → ⊥)
    → zeros_among (polynomial_at coefficients) points + 1 ≤ length coefficients
unfolding zeros_among AreDistinct
few_lowest_first points [] distinct all_points all nonzero = absurd (nonzero refl)
few_lowest_first [] (c ∷ cs) distinct all_points all nonzero = omega arith
few_lowest_first (x ∷ points) (c ∷ cs) distinct all_points all nonzero =
    elim (cases_eq (polynomial_at (c ∷ cs) x) 0) [
      | inl root ↦
          let byte_x = All-head IsByte x points all_points in
          let tail_points = All-tail IsByte x points all_points in
          let all_cs = All-tail IsByte c cs all in
          let quotient_nonzero : quotient x cs ≡ replicate (length (quotient x cs)) 0 → ⊥ =
          λ zeros. nonzero (all_zero c x cs root (zeros_from_quotient x cs (zeros ∙ ap (λ n. replicate n 0) (length-quotient x cs)))) in
          let rest = few_lowest_first points (quotient x cs) distinct.1 tail_points (All-quotient x cs all_cs) quotient_nonzero in
          let same = same_zeros x c cs points byte_x all_cs tail_points distinct.0 root in
          let counted : (if polynomial_at (c ∷ cs) x == 0 then 1 else 0) + zeros_among (polynomial_at (c ∷ cs)) points ≤ 1 + zeros_among (polynomial_at (quotient x cs)) points =
          one_at_most (polynomial_at (c ∷ cs) x) (zeros_among (polynomial_at (c ∷ cs)) points) (zeros_among (polynomial_at (quotient x cs)) points) same in
          omega (arith, length-quotient x cs)
      | inr no_root ↦
          let rest = few_lowest_first points (c ∷ cs) distinct.1 (All-tail IsByte x points all_points) all nonzero in
          let counted : (if polynomial_at (c ∷ cs) x == 0 then 1 else 0) + zeros_among (polynomial_at (c ∷ cs)) points ≡ zeros_among (polynomial_at (c ∷ cs)) points =
          not_counted (polynomial_at (c ∷ cs) x) (zeros_among (polynomial_at (c ∷ cs)) points) no_root in
          omega arith
    ]

-- one coefficient more at the end, multiplied out
pushed : (d c x p u : ℕ) → plus d (product x (plus p (product c u))) ≡ plus (plus d (product x p)) (product c (product u x))
pushed d c x p u = simp ring

-- one coefficient more at the end adds its term to the value
polynomial_at-push : (cs : List ℕ) (c x : ℕ) → c < 256 → polynomial_at (cs ++ c ∷ []) x ≡ plus (polynomial_at cs x) (product c (power x (length cs)))
unfolding polynomial_at
polynomial_at-push [] c x byte =
    rw (product-zero, power-zero, product-one c byte) (plus-comm c 0)
polynomial_at-push (d ∷ cs) c x byte =
    rw (polynomial_at-push cs c x byte, power-suc x (length cs)) (pushed d c x (polynomial_at cs x) (power x (length cs)))

-- a word's value is that of its coefficients, the lowest power first
value-reverse : (taps : List ℕ) (x : ℕ) → All IsByte taps → value taps x ≡ polynomial_at (reverse taps) x
unfolding polynomial_at
value-reverse [] x all = value-nil x
value-reverse (c ∷ cs) x all =
    value-cons c cs x
    ∙ ap (plus (product c (power x (length cs)))) (value-reverse cs x (All-tail IsByte c cs all))
    ∙ plus-comm (product c (power x (length cs))) (polynomial_at (reverse cs) x)
    ∙ ap (λ n. plus (polynomial_at (reverse cs) x) (product c (power x n))) (sym (length-reverse cs))
    ∙ sym (polynomial_at-push (reverse cs) c x (All-head IsByte c cs all))
    ∙ ap (λ xs. polynomial_at xs x) (sym (reverse_onto cs c []))

-- functions that agree have as many zeros
zeros_among-alike : (f g : ℕ → ℕ) (points : List ℕ) → ((x : ℕ) → f x ≡ g x) → zeros_among f points ≡ zeros_among g points
unfolding zeros_among
zeros_among-alike f g [] alike = refl
zeros_among-alike f g (x ∷ points) alike = rw (alike x, zeros_among-alike f g points alike) refl

-- bytes in the reverse order are bytes
All-reverse : (xs : List ℕ) → All IsByte xs → All IsByte (reverse xs)
All-reverse xs all = All-from_get_or IsByte (reverse xs) 0 (λ k inside.
    let long : length (reverse xs) ≡ length xs = length-reverse xs in
    subst IsByte (sym (get_or-reverse xs k 0 (omega arith))) (All-get_or IsByte xs (length xs - 1 - k) 0 (omega arith) all))

-- a polynomial with the leading coefficient 1, turned round, isn't all zeros
led-nonzero : (taps : List ℕ) → 0 < length taps → get_or taps 0 0 ≡ 1 → reverse taps ≡ replicate (length (reverse taps)) 0 → ⊥
led-nonzero taps some first zeros =
    let long : length (reverse taps) ≡ length taps = length-reverse taps in
    let back : length taps - 1 - (length taps - 1) ≡ 0 = omega arith in
    let last : get_or (reverse taps) (length taps - 1) 0 ≡ 1 =
    get_or-reverse taps (length taps - 1) 0 (omega arith) ∙ ap (λ k. get_or taps k 0) back ∙ first in
    let none : get_or (reverse taps) (length taps - 1) 0 ≡ 0 =
    ap (λ xs. get_or xs (length taps - 1) 0) zeros ∙ get_or-replicate (length (reverse taps)) (length taps - 1) 0 0 (omega arith) in
    omega (arith, last, none)

-- a polynomial with the leading coefficient 1 has fewer zeros than coefficients
pub few_zeros : (points taps : List ℕ) → AreDistinct points → All IsByte points → All IsByte taps → 0 < length taps → get_or taps 0 0 ≡ 1
    → zeros_among (value taps) points + 1 ≤ length taps
few_zeros points taps distinct all_points all some first =
    let few = few_lowest_first points (reverse taps) distinct all_points (All-reverse taps all) (led-nonzero taps some first) in
    omega (arith, length-reverse taps, zeros_among-alike (value taps) (polynomial_at (reverse taps)) points (λ x. value-reverse taps x all))

-- one zero more is counted
counted : (p n m : ℕ) → p ≡ 0 → n ≡ m → (if p == 0 then 1 else 0) + n ≡ suc m
counted p n m is_zero same = grind (arith, nat_tests)

-- where a function vanishes at all points, all are zeros
pub zeros_among-all : (f : ℕ → ℕ) (points : List ℕ) → ((j : ℕ) → j < length points → f (get_or points j 0) ≡ 0) → zeros_among f points ≡ length points
unfolding zeros_among
zeros_among-all f [] vanishes = refl
zeros_among-all f (x ∷ points) vanishes =
    counted (f x) (zeros_among f points) (length points) (vanishes 0 (omega arith)) (zeros_among-all f points (λ j below. vanishes (suc j) (omega arith)))

-- the first values of a function
values_of : ℕ → (ℕ → ℕ) → List ℕ
values_of zero f = []
values_of (suc n) f = f 0 ∷ values_of n (λ k. f (suc k))

-- so many
length-values_of : (n : ℕ) (f : ℕ → ℕ) → length (values_of n f) ≡ n
unfolding values_of
length-values_of zero f = refl
length-values_of (suc n) f = ap suc (length-values_of n (λ k. f (suc k)))

-- each in its place
get_or-values_of : (n : ℕ) (f : ℕ → ℕ) (k : ℕ) → k < n → get_or (values_of n f) k 0 ≡ f k
unfolding values_of
get_or-values_of zero f k below = absurd (omega arith)
get_or-values_of (suc n) f zero below = refl
get_or-values_of (suc n) f (suc k) below = get_or-values_of n (λ m. f (suc m)) k (omega arith)

-- they are bytes if the function's values are
All-values_of : (n : ℕ) (f : ℕ → ℕ) → ((k : ℕ) → f k < 256) → All IsByte (values_of n f)
unfolding values_of
All-values_of zero f bytes = All-nil IsByte
All-values_of (suc n) f bytes = All-cons IsByte (f 0) (values_of n (λ k. f (suc k))) (bytes 0) (All-values_of n (λ k. f (suc k)) (λ k. bytes (suc k)))

-- one factor more, from the other side
one_factor : (x c p : ℕ) → product c (product p x) ≡ product x (product c p)
one_factor x c p = simp ring

-- a polynomial of these coefficients, as a sum from the power 0 on
polynomial_at-values_of : (n : ℕ) (f : ℕ → ℕ) (x : ℕ) → ((k : ℕ) → f k < 256) → polynomial_at (values_of n f) x ≡ total n (λ k. product (f k) (power x k))
unfolding values_of polynomial_at
polynomial_at-values_of zero f x bytes = sym (total-none (λ k. product (f k) (power x k)))
polynomial_at-values_of (suc n) f x bytes =
    let term : ℕ → ℕ = λ k. product (f k) (power x k) in
    let next : ℕ → ℕ = λ k. product (f (suc k)) (power x k) in
    let first : f 0 ≡ term 0 = sym (ap (product (f 0)) (power-zero x) ∙ product-one (f 0) (bytes 0)) in
    let rest : product x (polynomial_at (values_of n (λ k. f (suc k))) x) ≡ total n (λ k. term (suc k)) =
    ap (product x) (polynomial_at-values_of n (λ k. f (suc k)) x (λ k. bytes (suc k)))
    ∙ sym (total-product n x next)
    ∙ total-same n (λ k. product x (next k)) (λ k. term (suc k)) (λ k below.
    sym (ap (product (f (suc k))) (power-suc x k) ∙ one_factor x (f (suc k)) (power x k))) in
    ap (λ v. plus v (product x (polynomial_at (values_of n (λ k. f (suc k))) x))) first ∙ ap (plus (term 0)) rest ∙ sym (total-head n term)

-- a polynomial that vanishes at as many points as it has coefficients has none but zeros
pub no_coefficient : (n : ℕ) (f : ℕ → ℕ) (points : List ℕ) → AreDistinct points → All IsByte points → n ≤ length points → ((k : ℕ) → f k < 256)
    → ((j : ℕ) → j < length points → total n (λ k. product (f k) (power (get_or points j 0) k)) ≡ 0)
    → (k : ℕ) → k < n → f k ≡ 0
no_coefficient n f points distinct all_points enough bytes vanishes k below =
    let coefficients = values_of n f in
    let size : length coefficients ≡ n = length-values_of n f in
    let here : get_or coefficients k 0 ≡ f k = get_or-values_of n f k below in
    let many : zeros_among (polynomial_at coefficients) points ≡ length points =
    zeros_among-all (polynomial_at coefficients) points (λ j inside. polynomial_at-values_of n f (get_or points j 0) bytes ∙ vanishes j inside) in
    elim (cases_eq (f k) 0) [
      | inl none ↦ none
      | inr some ↦
          let nonzero : coefficients ≡ replicate (length coefficients) 0 → ⊥ =
          λ zeros. some (sym here ∙ ap (λ xs. get_or xs k 0) zeros ∙ get_or-replicate (length coefficients) k 0 0 (omega (arith, size))) in
          let few = few_lowest_first points coefficients distinct all_points (All-values_of n f bytes) nonzero in
          absurd (omega (arith, few, many, size, enough))
    ]
