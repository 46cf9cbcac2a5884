-- The values of a polynomial at the powers of alpha, term by term, and those of a term, sixteen by sixteen.
use Rattle.std.proofs.Common.{◌≡◌, ℕ, ◌+◌, ◌-◌, ◌*◌, ◌<◌, List, ◌∷◌, length, drop, get_or, sym, ap, ◌∙◌, arith}
use Rattle.std.proofs.lemmas.List.{drop_more, length-drop}
use Rattle.coding.specs.Field.{alpha, plus, product, power}
use Rattle.coding.specs.Words.{value}
use Rattle.gf_field.proofs.FieldLaws.{plus-comm, power-add, power-mul, product-assoc}
use Rattle.rs_code.proofs.Values.{value-cons}

-- the term of an exponent, added to those of lower ones
pub value-next_term : (polynomial : List ℕ) (exponent k : ℕ) → exponent < length polynomial
    → value (drop (length polynomial - (exponent + 1)) polynomial) (power alpha k)
    ≡ plus (value (drop (length polynomial - exponent) polynomial) (power alpha k)) (product (get_or polynomial (length polynomial - 1 - exponent) 0) (power alpha (exponent * k)))
value-next_term polynomial exponent k inside =
    let n = length polynomial in
    let place = n - 1 - exponent in
    let coefficient = get_or polynomial place 0 in
    let x = power alpha k in
    let lower = drop (n - exponent) polynomial in
    let at : n - (exponent + 1) ≡ place = omega arith in
    let next : place + 1 ≡ n - exponent = omega arith in
    let degree : length lower ≡ exponent = length-drop (n - exponent) polynomial ∙ omega arith in
    let turned : k * exponent ≡ exponent * k = omega arith in
    ap (λ from. value (drop from polynomial) x) at
    ∙ ap (λ xs. value xs x) (drop_more polynomial place 0 (omega arith))
    ∙ ap (λ from. value (coefficient ∷ drop from polynomial) x) next
    ∙ value-cons coefficient lower x
    ∙ ap (λ e. plus (product coefficient (power x e)) (value lower x)) degree
    ∙ ap (λ p. plus (product coefficient p) (value lower x)) (sym (power-mul alpha k exponent) ∙ ap (power alpha) turned)
    ∙ plus-comm (product coefficient (power alpha (exponent * k))) (value lower x)

-- a term's value sixteen powers of alpha on
pub term-next_group : (coefficient exponent group q : ℕ)
    → product (product coefficient (power alpha (exponent * (16 * group + q)))) (power alpha (16 * exponent)) ≡ product coefficient (power alpha (exponent * (16 * (group + 1) + q)))
term-next_group coefficient exponent group q =
    let sum : exponent * (16 * group + q) + 16 * exponent ≡ exponent * (16 * (group + 1) + q) = omega arith in
    product-assoc coefficient (power alpha (exponent * (16 * group + q))) (power alpha (16 * exponent))
    ∙ ap (product coefficient) (sym (power-add alpha (exponent * (16 * group + q)) (16 * exponent)) ∙ ap (power alpha) sum)
