-- The proof of `rotated_thirds` in src/fold3.rt.
use Rattle.std.proofs.Common.{◌≡◌, ◌%◌, ◌∙◌, arith}
use Rattle.gf_field.proofs.FieldLaws.{plus-byte, product-byte}
use Rattle.rs_lanes.proofs.ThirdLemmas.{rotated_none, rotated_once, rotated_twice}
use Rattle.rs_lanes.proofs.fold3.rotated_thirds.Goals as goal

pub returns-then-rest-eq0-clause-thirds : goal.returns-then-rest-eq0-clause-thirds
returns-then-rest-eq0-clause-thirds c = λ i third.
    let made = c.thirds_of.ensures in
    record {
      size = (made.thirds i third).size;
      each = λ j below.
          (made.thirds i third).each j below
          ∙ rotated_none i c.args.rotations _ third c.if-rest-eq0.true (plus-byte _ _ (product-byte _ _) (made.bytes j below).2);
    }

pub returns-then-rest-eq1-clause-thirds : goal.returns-then-rest-eq1-clause-thirds
returns-then-rest-eq1-clause-thirds c = λ i third.
    let made = c.thirds_of-then-rest-eq1.ensures in
    record {
      size = (made.thirds i third).size;
      each = λ j below.
          (made.thirds i third).each j below
          ∙ rotated_once i c.args.rotations _ _ _ third c.if-rest-eq1.true (made.bytes j below).2;
    }

pub returns-else-rest-eq1-clause-thirds : goal.returns-else-rest-eq1-clause-thirds
returns-else-rest-eq1-clause-thirds c = λ i third.
    let made = c.thirds_of-else-rest-eq1.ensures in
    let rest : c.args.rotations % 3 ≡ 2 = omega (arith, c.if-rest-eq0.false, c.if-rest-eq1.false) in
    record {
      size = (made.thirds i third).size;
      each = λ j below.
          (made.thirds i third).each j below
          ∙ rotated_twice i c.args.rotations _ _ _ third rest (made.bytes j below).1 (made.bytes j below).2;
    }
