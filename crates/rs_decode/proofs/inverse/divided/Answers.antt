-- The proof of `divided` in src/inverse.rt.
use Rattle.std.proofs.Common.{◌≡◌, ◌≢◌, ◌<◌, length, length-set, get_or, get_or-set_other, get_or-set_same, set, below_more, refl, sym, ap, ◌∙◌, arith}
use Rattle.coding.specs.Field.{product}
use Rattle.coding.specs.Rows.{place}
use Rattle.gf_field.proofs.FieldLaws.{one-product, product-assoc}
use Rattle.rs_decode.proofs.inverse.divided.Goals as goal

pub loop-k-init : goal.loop-k-init
loop-k-init c = record { size = refl; set = λ m i none below. absurd (omega arith) }

pub loop-k-preserved : goal.loop-k-preserved
loop-k-preserved c =
    let k = c.loop-k.k in
    let quotients = c.loop-k.quotients in
    let next = c.lane_products.result in
    let factors = c.inverses.result in
    let before = c.loop-k.invariant in
    let inside : k < length quotients = omega (arith, before.size) in
    record {
      size = length-set quotients k next ∙ before.size;
      set = λ m i earlier below.
          let d = get_or c.args.divisors i 0 in
          let byte = place c.args.columns.now k i in
          below_more (λ m. product d (place (set quotients k next) m i) ≡ place c.args.columns.now m i) k
          (λ m under. let other : m ≢ k = omega arith in rw get_or-set_other (before.set m i under below))
          (rw get_or-set_same
          (ap (product d)
          (c.lane_products.ensures.each i (get_or factors i 0) (omega arith) (c.inverses.ensures.bytes i below) (λ m bit. c.multiples_of-multiples.ensures m i bit (omega arith)))
          ∙ sym (product-assoc d (get_or factors i 0) byte)
          ∙ ap (λ v. product v byte) (c.inverses.ensures.inverse i below) ∙ one-product byte (c.requires.bytes k i c.loop-k-test.true below))) m earlier;
    }

pub returns : goal.returns
returns c = λ k i inside below. c.loop-k.invariant.set k i (omega arith) below
