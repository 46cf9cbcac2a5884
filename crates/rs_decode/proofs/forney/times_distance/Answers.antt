-- The proof of `times_distance` in src/forney.rt.
use Rattle.std.proofs.Common.{◌≡◌, ◌+◌, ◌∷◌, get_or, add-one, ap, ◌∙◌, arith}
use Rattle.coding.specs.Field.{plus, product}
use Rattle.gf_field.proofs.FieldLaws.{plus-zero, product-comm, zero-product}
use Rattle.rs_decode.proofs.forney.times_distance.Goals as goal

pub returns-clause-first : goal.returns-clause-first
returns-clause-first c =
    let first = get_or c.args.lanes 0 0 in
    c.with_multiple.ensures.each 0 (omega arith)
    ∙ ap (λ x. plus first (product x c.args.point)) (c.moved_up.ensures.each 0 (omega arith))
    ∙ ap (plus first) (zero-product c.args.point) ∙ plus-zero first

pub returns-clause-each : goal.returns-clause-each
returns-clause-each c = λ k below.
    let here = get_or c.args.lanes (k + 1) 0 in
    let before : get_or c.moved_up.result (k + 1) 0 ≡ get_or c.args.lanes k 0 = c.moved_up.ensures.each (k + 1) (omega arith) ∙ ap (λ j. get_or (0 ∷ c.args.lanes) j 0) (add-one k) in
    c.with_multiple.ensures.each (k + 1) (omega arith)
    ∙ ap (λ x. plus here (product x c.args.point)) before ∙ ap (plus here) (product-comm (get_or c.args.lanes k 0) c.args.point)
