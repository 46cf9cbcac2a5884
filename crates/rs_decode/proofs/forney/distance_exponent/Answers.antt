-- The proof of `distance_exponent` in src/forney.rt.
use Rattle.std.proofs.Common.{◌<◌, ◌+◌, length, take, get_or, ap, sym, ◌∙◌, arith}
use Rattle.std.proofs.lemmas.List.{take_all, take_more}
use Rattle.coding.specs.Field.{alpha, product, power}
use Rattle.gf_field.proofs.FieldLaws.{power-add, power-zero}
use Rattle.rs_decode.specs.Inner.Locator.{distances}
use Rattle.rs_decode.proofs.MarksTakenOut.{distances-push}
use Rattle.rs_decode.proofs.forney.distance_exponent.Goals as goal

pub loop-other-init : goal.loop-other-init
unfolding distances
loop-other-init c = record { small = omega arith; reaches = power-zero alpha }

pub loop-other-preserved : goal.loop-other-preserved
loop-other-preserved c =
    let others = c.args.others.now in
    let point = c.args.point in
    let i = c.loop-other.other-index in
    let inside : i < length others = omega arith in
    let before = c.loop-other.invariant in
    record {
      small = omega arith;
      reaches =
          ap (λ e. power alpha (c.loop-other.exponent + e)) c.from-exponent.ensures
          ∙ power-add alpha c.loop-other.exponent c.log.result
          ∙ ap (λ x. product x (power alpha c.log.result)) before.reaches
          ∙ ap (product (distances (take i others) point)) c.log.ensures.reaches
          ∙ sym (ap (λ xs. distances xs point) (take_more others i 0 inside) ∙ distances-push (take i others) (get_or others i 0) point);
    }

pub returns-clause-reaches : goal.returns-clause-reaches
returns-clause-reaches c =
    c.loop-other.invariant.reaches ∙ ap (λ xs. distances xs c.args.point) (take_all c.loop-other.other-index c.args.others.now (omega arith))
