-- The value of a polynomial at a power of alpha, term by term from the lowest power on, by logarithms.
use Rattle.std.proofs.Common.{◌≡◌, ℕ, suc, ◌+◌, ◌-◌, ◌<◌, List, length, drop, get_or, sym, ap, ◌∙◌, add-one, drop-cons}
use Rattle.std.proofs.lemmas.List.{length-drop}
use Rattle.coding.specs.Field.{alpha, plus, product, power}
use Rattle.coding.specs.Words.{value}
use Rattle.gf_field.proofs.FieldLaws.{plus-comm, power-add, power-suc, zero-plus, zero-product}
use Rattle.rs_code.proofs.Values.{value-cons}

-- the value from a place on is that place's term and the value from the next place on
pub value-term : (polynomial : List ℕ) (i x : ℕ) → i < length polynomial
    → value (drop i polynomial) x ≡ plus (product (get_or polynomial i 0) (power x (length polynomial - suc i))) (value (drop (suc i) polynomial) x)
value-term polynomial i x inside =
    ap (λ p. value p x) (drop-cons polynomial i 0 inside) ∙ value-cons (get_or polynomial i 0) (drop (suc i) polynomial) x
    ∙ ap (λ n. plus (product (get_or polynomial i 0) (power x n)) (value (drop (suc i) polynomial) x)) (length-drop (suc i) polynomial)

-- a term that isn't 0 is added by its logarithm: the coefficient's, and a multiple of the exponent
pub value-next : (polynomial : List ℕ) (i e l shift sum : ℕ) → i < length polynomial → power alpha l ≡ get_or polynomial i 0
    → power alpha shift ≡ power (power alpha e) (length polynomial - suc i) → sum ≡ value (drop (suc i) polynomial) (power alpha e)
    → plus sum (power alpha (l + shift)) ≡ value (drop i polynomial) (power alpha e)
value-next polynomial i e l shift sum inside reaches shifted so_far =
    let term : power alpha (l + shift) ≡ product (get_or polynomial i 0) (power (power alpha e) (length polynomial - suc i)) =
    power-add alpha l shift ∙ ap (λ c. product c (power alpha shift)) reaches ∙ ap (product (get_or polynomial i 0)) shifted in
    ap (plus sum) term ∙ plus-comm sum (product (get_or polynomial i 0) (power (power alpha e) (length polynomial - suc i)))
    ∙ ap (plus (product (get_or polynomial i 0) (power (power alpha e) (length polynomial - suc i)))) so_far
    ∙ sym (value-term polynomial i (power alpha e) inside)

-- a term that is 0 adds nothing
pub value-same : (polynomial : List ℕ) (i x sum : ℕ) → i < length polynomial → get_or polynomial i 0 ≡ 0 → sum ≡ value (drop (suc i) polynomial) x → sum ≡ value (drop i polynomial) x
value-same polynomial i x sum inside none so_far =
    let rest = value (drop (suc i) polynomial) x in
    so_far ∙ sym (value-term polynomial i x inside ∙ ap (λ c. plus (product c (power x (length polynomial - suc i))) rest) none
    ∙ ap (λ p. plus p rest) (zero-product (power x (length polynomial - suc i))) ∙ zero-plus rest)

-- the multiple of the exponent one place on
pub shift-next : (e shift m : ℕ) → power alpha shift ≡ power (power alpha e) m → power alpha (shift + e) ≡ power (power alpha e) (m + 1)
shift-next e shift m shifted =
    power-add alpha shift e ∙ ap (λ p. product p (power alpha e)) shifted ∙ sym (power-suc (power alpha e) m) ∙ ap (power (power alpha e)) (sym (add-one m))
