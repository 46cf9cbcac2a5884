-- The proof of `last_value` in src/fold3.rt.
use Rattle.std.proofs.Common.{refl, sym, ap, ◌∙◌, get_or, arith}
use Rattle.std.proofs.lemmas.Simd.{get_or-replicate}
use Rattle.coding.specs.Field.{alpha, power}
use Rattle.rs_code.proofs.Values.{value-nil}
use Rattle.rs_lanes.specs.Inner.Thirds.{folded, third}
use Rattle.rs_lanes.proofs.FifthLemmas.{power-last}
use Rattle.rs_lanes.proofs.ThirdLemmas.{length-third, value-fives, value-fives_more}
use Rattle.rs_lanes.proofs.fold3.last_value.Goals as goal

pub loop-place-init : goal.loop-place-init
loop-place-init c = record {
  size = refl;
  each = λ j below. get_or-replicate 32 j 0 0 below ∙ sym (value-nil (power alpha 15));
}

pub loop-place-preserved : goal.loop-place-preserved
loop-place-preserved c =
    let thirds = c.args.thirds.now in
    let q = c.loop-place.place in
    let step = c.next_value-value.ensures in
    record {
      size = (step.step (omega arith)).size;
      each = λ j below.
          let word = third thirds 0 j in
          (step.step (omega arith)).each j below
          ∙ value-fives_more (power alpha 15) word q _ _ (length-third thirds 0 j) (omega arith) (step.bytes j below)
          (c.loop-place.invariant.each j below) ((c.folded_places.ensures 0 (omega arith)).each j below ∙ ap (λ factor. get_or (folded 17 factor word 4) q 0) power-last);
    }

pub returns : goal.returns
returns c =
    let thirds = c.args.thirds.now in
    record {
      size = c.loop-place.invariant.size;
      each = λ j below.
          c.loop-place.invariant.each j below
          ∙ value-fives (power alpha 15) (third thirds 0 j) c.loop-place.place (length-third thirds 0 j) (omega arith);
    }
