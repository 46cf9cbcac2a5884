-- The proof of `multiplied` in src/fold3.rt.
use Rattle.std.proofs.Common.{◌≡◌, ◌*◌, get_or, sym, ap, subst, ◌∙◌, arith}
use Rattle.coding.specs.Field.{alpha, product, power}
use Rattle.gf_field.proofs.FieldLaws.{one-product, power-zero, product-comm}
use Rattle.rs_lanes.specs.Inner.Lanes.{HasLanes}
use Rattle.rs_lanes.specs.Inner.Tables.{IsTable}
use Rattle.rs_lanes.proofs.LaneLemmas.{byte_lane}
use Rattle.rs_lanes.proofs.fold3.multiplied.Goals.{then-k-eq0, else-k-eq0}
use Rattle.rs_lanes.proofs.fold3.multiplied.Goals as goal

pub returns : goal.returns
returns c =
    let lanes = c.args.lanes in
    let k = c.args.k in
    let x = power alpha k in
    elim c.if-k-eq0.branch [
      | then-k-eq0 w ↦
          let none : k ≡ 0 = w.if-k-eq0.true in
          let one : x ≡ 1 = ap (power alpha) none ∙ power-zero alpha in
          record {
            size = c.if-k-eq0.auto.result.0;
            each = λ j below.
                ap (λ row. get_or row j 0) w.result-is
                ∙ sym (ap (λ f. product f (get_or lanes j 0)) one ∙ one-product (get_or lanes j 0) (byte_lane 32 lanes c.fits-lanes j below));
          }
      | else-k-eq0 w ↦
          let same : 1 * k ≡ k = omega arith in
          subst (λ row. HasLanes row (λ j. product x (get_or lanes j 0))) (sym w.result-is)
          (record {
            size = (w.mul_const.ensures x (subst (λ f. IsTable f w.products.result) (w.powers_of.ensures k c.requires ∙ ap (power alpha) same) w.products.ensures)).size;
            each = λ j below.
                (w.mul_const.ensures x (subst (λ f. IsTable f w.products.result) (w.powers_of.ensures k c.requires ∙ ap (power alpha) same) w.products.ensures)).each j below
                ∙ product-comm (get_or lanes j 0) x;
          })
    ]
