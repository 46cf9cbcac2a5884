-- The proof of `derivative` in src/forney.rt.
use Rattle.std.proofs.Common.{◌≡◌, ◌≢◌, ◌+◌, ◌-◌, List, ℕ, All, length, take, drop, get_or, add-one, ap, sym, subst, ◌∙◌, arith}
use Rattle.std.proofs.lemmas.List.{length-drop, take_all}
use Rattle.coding.specs.Field.{alpha, product, power}
use Rattle.gf_field.proofs.FieldLaws.{alpha-nonzero, power-add, power-nonzero}
use Rattle.rs_decode.specs.Inner.Locator.{distances}
use Rattle.rs_decode.proofs.Evaluator.{apart-after, apart-before, slope-at}
use Rattle.rs_decode.proofs.forney.derivative.Goals as goal

pub distance_exponent-before-requires-clause-apart : goal.distance_exponent-before-requires-clause-apart
distance_exponent-before-requires-clause-apart c = apart-before c.args.points.now c.args.i c.requires.distinct c.requires.inside

-- the points after one, as a slice has them
after : (points : List ℕ) (i : ℕ) → take (length points - (i + 1)) (drop (i + 1) points) ≡ drop (i + 1) points
after points i = take_all (length points - (i + 1)) (drop (i + 1) points) (omega (arith, length-drop (i + 1) points))

pub distance_exponent-after-requires-clause-apart : goal.distance_exponent-after-requires-clause-apart
distance_exponent-after-requires-clause-apart c =
    let points = c.args.points.now in
    let i = c.args.i in
    subst (All (λ other. get_or points i 0 ≢ other)) (sym (after points i)) (apart-after points i c.requires.distinct c.requires.inside)

pub returns-clause-nonzero : goal.returns-clause-nonzero
returns-clause-nonzero c =
    let exponent = c.distance_exponent-before.result + c.distance_exponent-after.result in
    subst (λ d. d ≢ 0) (sym c.alpha_pow.ensures) (power-nonzero alpha exponent (omega arith) alpha-nonzero)

pub returns-clause-slope : goal.returns-clause-slope
returns-clause-slope c =
    let points = c.args.points.now in
    let i = c.args.i in
    let x = get_or points i 0 in
    c.alpha_pow.ensures ∙ power-add alpha c.distance_exponent-before.result c.distance_exponent-after.result
    ∙ ap (λ d. product d (power alpha c.distance_exponent-after.result)) c.distance_exponent-before.ensures.reaches
    ∙ ap (product (distances (take i points) x)) (c.distance_exponent-after.ensures.reaches ∙ ap (λ xs. distances xs x) (after points i) ∙ ap (λ n. distances (drop n points) x) (add-one i))
    ∙ sym (slope-at points i c.requires.inside)
