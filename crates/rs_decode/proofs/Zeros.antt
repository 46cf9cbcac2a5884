-- The search for a polynomial's zeros: the marks place by place.
use Rattle.std.proofs.Common.{◌≡◌, ◌≢◌, ℕ, ◌-◌, ◌<◌, Bool, true, false, ◌||◌, ◌==◌, List, [], ◌∷◌, length, get_or, refl, sym, ap, ◌∙◌, arith}
use Rattle.std.proofs.lemmas.List.{ext_get_or}
use Rattle.std.proofs.lemmas.Bool.{ne_eqb}
use Rattle.coding.specs.Field.{alpha, power}
use Rattle.coding.specs.Words.{value}
use Rattle.gf_field.proofs.FieldLaws.{plus-zero, power-zero, product-one}
use Rattle.rs_code.specs.Inner.PowerSums.{points_of}
use Rattle.rs_code.proofs.PowerSums.{length-points_of}
use Rattle.rs_code.proofs.Values.{value-nil, value-cons}
use Rattle.rs_decode.specs.Inner.Locator.{with_zeros}
use Rattle.rs_decode.proofs.Marks.{get_or-points_of}
use Rattle.rs_decode.proofs.ErrorsFound.{get_or-with_zeros, length-with_zeros}

-- marks that are right at each place are the marks with the zeros
pub with_zeros-from_places : (locator : List ℕ) (marks after : List Bool)
    → length after ≡ length marks
    → ((k : ℕ) → k < length marks → get_or after k false ≡ (get_or marks k false || (value locator (power alpha (length marks - 1 - k)) == 0)))
    → after ≡ with_zeros locator marks (points_of (length marks))
with_zeros-from_places locator marks after size places =
    let long : length marks ≡ length (points_of (length marks)) = sym (length-points_of (length marks)) in
    let zeros = with_zeros locator marks (points_of (length marks)) in
    let zeros_long : length zeros ≡ length marks = length-with_zeros locator marks (points_of (length marks)) long in
    ext_get_or false after zeros (omega arith)
    (λ k below.
    let point = get_or-points_of (length marks) k (omega arith) in
    places k (omega arith)
    ∙ ap (λ x. get_or marks k false || (value locator x == 0)) (sym point)
    ∙ sym (get_or-with_zeros locator marks (points_of (length marks)) k long (omega arith)))

-- where the point is no zero, nothing changes
pub or_false : (mark test : Bool) → test ≡ false → mark ≡ (mark || test)
or_false true test none = refl
or_false false test none = sym none

-- the polynomial 1 has no zero
one-nonzero : (xs : List ℕ) (x : ℕ) → length xs ≡ 1 → get_or xs 0 0 ≡ 1 → value xs x ≢ 0
one-nonzero [] x single led vanishes = absurd (omega arith)
one-nonzero (c ∷ d ∷ cs) x single led vanishes = absurd (omega arith)
one-nonzero (c ∷ []) x single led vanishes =
    let one : value (c ∷ []) x ≡ 1 =
    value-cons c [] x ∙ rw (led, power-zero x, value-nil x) (rw (product-one 1 (omega arith)) (plus-zero 1)) in
    absurd (omega (arith, one, vanishes))

-- so it marks nothing
pub with_zeros-one : (locator : List ℕ) (marks : List Bool) → length locator ≡ 1 → get_or locator 0 0 ≡ 1 → marks ≡ with_zeros locator marks (points_of (length marks))
with_zeros-one locator marks single led = with_zeros-from_places locator marks marks refl (λ k below.
    let x = power alpha (length marks - 1 - k) in
    or_false (get_or marks k false) (value locator x == 0) (ne_eqb (value locator x) 0 (one-nonzero locator x single led)))
