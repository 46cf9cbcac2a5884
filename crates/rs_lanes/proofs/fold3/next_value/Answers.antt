-- The proof of `next_value` in src/fold3.rt.
use Rattle.std.proofs.Common.{get_or, sym, ap, subst, ◌∙◌, arith}
use Rattle.coding.specs.Field.{alpha, plus, product, power}
use Rattle.rs_lanes.specs.Inner.Lanes.{HasLanes}
use Rattle.rs_lanes.proofs.fold3.next_value.Goals.{then-k-count, else-k-count}
use Rattle.rs_lanes.proofs.fold3.next_value.Goals as goal

pub returns-clause-step : goal.returns-clause-step
returns-clause-step c = λ wanted.
    let x = power alpha c.args.k in
    elim c.if-k-count.branch [
      | then-k-count w ↦
          subst (λ row. HasLanes row (λ j. plus (product x (get_or c.args.value j 0)) (get_or c.args.next j 0))) (sym w.result-is)
          (record {
            size = w.xor.ensures.size;
            each = λ j below. w.xor.ensures.each j below ∙ ap (λ p. plus p (get_or c.args.next j 0)) (w.multiplied.ensures.each j below);
          })
      | else-k-count w ↦ absurd (omega (arith, wanted, w.if-k-count.false))
    ]
