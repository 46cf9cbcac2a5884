-- The proof of `add_term` in src/values.rt.
use Rattle.std.proofs.Common.{◌≡◌, ◌+◌, ◌-◌, ◌*◌, get_or, ap, subst, ◌∙◌, inl, inr, refl, arith}
use Rattle.std.proofs.lemmas.Bool.{cases_lt}
use Rattle.coding.specs.Field.{alpha, plus, product, power}
use Rattle.gf_field.proofs.FieldLaws.{product-comm}
use Rattle.rs_decode.proofs.Powers.{term-next_group}
use Rattle.rs_decode.proofs.values.add_term.Goals as goal

pub loop-group-init : goal.loop-group-init
loop-group-init c =
    let coefficient = c.args.coefficient in
    record {
      size = refl;
      lanes = λ q below.
          c.mul_scalar-term.ensures.each q below
          ∙ ap (λ p. product p coefficient) (c.powers.ensures.each q below)
          ∙ product-comm (power alpha (c.args.exponent * q)) coefficient
          ∙ (let first : q ≡ 0 + q = omega arith in ap (λ lane. product coefficient (power alpha (c.args.exponent * lane))) first);
      added = λ k below. absurd (omega arith);
      kept = λ k from. refl;
    }

pub loop-group-preserved : goal.loop-group-preserved
loop-group-preserved c =
    let group = c.loop-group.group in
    let coefficient = c.args.coefficient in
    let exponent = c.args.exponent in
    let old = c.args.values.now in
    let new = c.add_lanes.new.bytes in
    let before = c.loop-group.invariant in
    record {
      size = c.add_lanes.ensures.size ∙ before.size;
      lanes = λ q below.
          c.mul_scalar-term-in-loop-group.ensures.each q below
          ∙ ap (λ p. product p c.alpha_pow-step.result) (before.lanes q below)
          ∙ ap (product (product coefficient (power alpha (exponent * (16 * group + q))))) c.alpha_pow-step.ensures
          ∙ term-next_group coefficient exponent group q;
      added = λ k below.
          elim (cases_lt k (16 * group)) [
            | inl under ↦ c.add_lanes.ensures.below k under ∙ before.added k under
            | inr over ↦
                let q = k - 16 * group in
                let whole : 16 * group + q ≡ k = omega arith in
                subst (λ m. get_or new m 0 ≡ plus (get_or old m 0) (product coefficient (power alpha (exponent * m)))) whole
                (c.add_lanes.ensures.added q (omega arith)
                ∙ ap (λ byte. plus byte (get_or c.loop-group.term q 0)) (before.kept (16 * group + q) (omega arith))
                ∙ ap (plus (get_or old (16 * group + q) 0)) (before.lanes q (omega arith)))
          ];
      kept = λ k from. c.add_lanes.ensures.above k (omega arith) ∙ before.kept k (omega arith);
    }
