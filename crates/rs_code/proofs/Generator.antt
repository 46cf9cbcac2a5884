-- The generator polynomial: a factor (x + root) more keeps the roots and adds its own.
use Rattle.std.proofs.Common.{◌≡◌, ℕ, zero, suc, ◌+◌, ◌<◌, List, [], ◌∷◌, ◌++◌, length, get_or, refl, sym, ap, subst, ◌∙◌, arith, inl, inr, length-append, add-one, drop}
use Rattle.std.specs.List.{refill}
use Rattle.std.proofs.lemmas.List.{take_at}
use Rattle.std.proofs.lemmas.Bool.{cases_eq}
use Rattle.std.proofs.lemmas.Grind.{same_number_lists}
use Rattle.coding.specs.Field.{alpha, plus, product, partial_product, power, shift, shifted}
use Rattle.coding.specs.Words.{value}
use Rattle.gf_field.proofs.FieldLaws.{plus-self, product-zero, zero-product, one-product, power-suc, power-byte}
use Rattle.rs_code.specs.Polynomials.{HasRoots}
use Rattle.rs_code.specs.declared.division.TheConstants.{PI_GENERATOR, PO_GENERATOR}
use Rattle.rs_code.specs.Inner.Polynomials.{sum_of, mul_scalar, times_root}
use Rattle.rs_code.proofs.Ring.{ring}
use Rattle.rs_code.proofs.Values.{value-cons, value-push, value-sum_of, value-mul_scalar, length-sum_of, length-mul_scalar, get_or-sum_of, get_or-mul_scalar}

-- the leading 1 counts as the power of x by the degree
pub value-led : (generator : List ℕ) (x : ℕ) → value (1 ∷ generator) x ≡ plus (power x (length generator)) (value generator x)
value-led generator x =
    value-cons 1 generator x ∙ rw (one-product (power x (length generator)) (power-byte x (length generator)))

-- a polynomial times x and its multiple with the leading 1 have the same length
longer : (generator : List ℕ) (root : ℕ) → length (generator ++ 0 ∷ []) ≡ length (mul_scalar root (1 ∷ generator))
longer generator root = omega (arith, length-append generator (0 ∷ []), length-mul_scalar root (1 ∷ generator))

-- one factor more is one coefficient more
pub length-times_root : (generator : List ℕ) (root : ℕ) → length (times_root generator root) ≡ suc (length generator)
unfolding times_root
length-times_root generator root =
    length-sum_of (generator ++ 0 ∷ []) (mul_scalar root (1 ∷ generator)) (longer generator root)
    ∙ (let e : length (generator ++ 0 ∷ []) ≡ suc (length generator) = omega (arith, length-append generator (0 ∷ [])) in e)

-- the value with one factor more, multiplied out
multiplied : (x root up v : ℕ) → plus (product up x) (plus (plus (product v x) 0) (product root (plus up v))) ≡ product (plus x root) (plus up v)
multiplied x root up v = simp ring

-- the value of a polynomial times (x + root) is the product of both values
pub value-times_root : (generator : List ℕ) (root x : ℕ) → value (1 ∷ times_root generator root) x ≡ product (plus x root) (value (1 ∷ generator) x)
unfolding times_root
value-times_root generator root x =
    let up : power x (length (times_root generator root)) ≡ product (power x (length generator)) x =
    ap (power x) (length-times_root generator root) ∙ power-suc x (length generator) in
    let rest : value (times_root generator root) x ≡ plus (plus (product (value generator x) x) 0) (product root (plus (power x (length generator)) (value generator x))) =
    value-sum_of (generator ++ 0 ∷ []) (mul_scalar root (1 ∷ generator)) x (longer generator root)
    ∙ rw (value-push generator 0 x (omega arith), value-mul_scalar root (1 ∷ generator) x, value-led generator x) in
    value-led (times_root generator root) x
    ∙ rw (up, rest, value-led generator x) (multiplied x root (power x (length generator)) (value generator x))

-- no roots at all are asked of any polynomial
pub HasRoots-start : (generator : List ℕ) → HasRoots 0 generator
HasRoots-start generator = λ k below. absurd (omega arith)

-- the product of the new factor and the polynomial is 0 at the old roots and at the new one
by_place : (r : ℕ) (generator : List ℕ) → HasRoots r generator → (k : ℕ) → k < suc r → product (plus (power alpha k) (power alpha r)) (value (1 ∷ generator) (power alpha k)) ≡ 0
by_place r generator roots k below =
    elim (cases_eq k r) [
      | inl same ↦ rw (same, plus-self) (zero-product (value (1 ∷ generator) (power alpha r)))
      | inr differ ↦ rw (roots k (omega arith)) (product-zero (plus (power alpha k) (power alpha r)))
    ]

-- the factor (x + alpha^r) keeps the roots alpha^0 to alpha^(r-1) and adds alpha^r
pub HasRoots-next : (r : ℕ) (generator : List ℕ) → HasRoots r generator → HasRoots (suc r) (times_root generator (power alpha r))
HasRoots-next r generator roots = λ k below. value-times_root generator (power alpha r) (power alpha k) ∙ by_place r generator roots k below

-- the product of (x + alpha^k) for k below r, without its leading 1
unfoldable pub generator_of : ℕ → List ℕ
generator_of zero = []
generator_of (suc r) = times_root (generator_of r) (power alpha r)

-- the generator has degree r
pub length-generator_of : (r : ℕ) → length (generator_of r) ≡ r
unfolding generator_of
length-generator_of zero = refl
length-generator_of (suc r) = length-times_root (generator_of r) (power alpha r) ∙ ap suc (length-generator_of r)

-- the generator vanishes at alpha^0 to alpha^(r-1)
pub HasRoots-generator_of : (r : ℕ) → HasRoots r (generator_of r)
unfolding generator_of
HasRoots-generator_of zero = HasRoots-start []
HasRoots-generator_of (suc r) = HasRoots-next r (generator_of r) (HasRoots-generator_of r)

-- the generators at hand are those of the codes of an ECC block
PI-same : generator_of 10 ≡ PI_GENERATOR
unfolding generator_of times_root sum_of mul_scalar product partial_product shifted power shift
PI-same = refl

PO-same : generator_of 16 ≡ PO_GENERATOR
unfolding generator_of times_root sum_of mul_scalar product partial_product shifted power shift
PO-same = refl

pub PI-generator : HasRoots 10 PI_GENERATOR
PI-generator = subst (HasRoots 10) PI-same (HasRoots-generator_of 10)

pub PO-generator : HasRoots 16 PO_GENERATOR
PO-generator = subst (HasRoots 16) PO-same (HasRoots-generator_of 16)

-- a zero after a list changes nothing at any place, since 0 is read there anyway
pub get_or-padded : (xs : List ℕ) (k : ℕ) → get_or (xs ++ 0 ∷ []) k 0 ≡ get_or xs k 0
get_or-padded [] zero = refl
get_or-padded [] (suc k) = refl
get_or-padded (x ∷ xs) zero = refl
get_or-padded (x ∷ xs) (suc k) = get_or-padded xs k

-- coefficient by coefficient: the root times the one before it is added
pub times_root-from_places : (generator padded after : List ℕ) (root : ℕ)
    → padded ≡ generator ++ 0 ∷ []
    → length after ≡ length padded
    → ((k : ℕ) → k < length padded → get_or after k 0 ≡ plus (get_or padded k 0) (product root (get_or (1 ∷ padded) k 0)))
    → after ≡ times_root generator root
unfolding times_root
times_root-from_places generator padded after root is long places =
    let size : length padded ≡ length (generator ++ 0 ∷ []) = ap length is in
    let multiplied = sum_of (generator ++ 0 ∷ []) (mul_scalar root (1 ∷ generator)) in
    let longer_too : length multiplied ≡ length (generator ++ 0 ∷ []) = length-sum_of (generator ++ 0 ∷ []) (mul_scalar root (1 ∷ generator)) (longer generator root) in
    same_number_lists after multiplied (omega arith)
    (λ k below.
    let led : get_or (1 ∷ padded) k 0 ≡ get_or (1 ∷ generator) k 0 = ap (λ xs. get_or (1 ∷ xs) k 0) is ∙ get_or-padded (1 ∷ generator) k in
    places k (omega arith)
    ∙ rw (led, is)
    (sym (get_or-sum_of (generator ++ 0 ∷ []) (mul_scalar root (1 ∷ generator)) k (longer generator root) ∙ ap (plus (get_or (generator ++ 0 ∷ []) k 0)) (get_or-mul_scalar root (1 ∷ generator) k))))

-- one root more, as a loop over a list that a 0 was pushed to has it
pub HasRoots-more : (r root : ℕ) (generator after : List ℕ) → root ≡ power alpha r → after ≡ times_root generator root → HasRoots r generator → HasRoots (r + 1) after
HasRoots-more r root generator after root_is is roots =
    rw (add-one, is, root_is) (HasRoots-next r generator roots)

-- a list of the same length that is written back through a slice replaces the whole
pub refill-same : (n : ℕ) (before after : List ℕ) → length after ≡ n → refill n before after ≡ after
refill-same n before after long = take_at after (drop (length after) before) n long
