-- The proof of `lane_products` in src/multiples.rt.
use Rattle.std.proofs.Common.{◌≡◌, ◌%◌, get_or, refl, sym, ap, ◌∙◌, add-one, arith}
use Rattle.std.proofs.lemmas.Simd.{get_or-replicate}
use Rattle.coding.specs.Field.{partial_product, plus, product}
use Rattle.rs_lanes.proofs.LaneLemmas.{HoldsLanes-zip2}
use Rattle.rs_decode.proofs.multiples.lane_products.Goals as goal

pub loop-k-init : goal.loop-k-init
unfolding partial_product
loop-k-init c = record { size = refl; added = λ i factor below are. get_or-replicate 16 i 0 0 below }

pub loop-k-preserved : goal.loop-k-preserved
unfolding partial_product
loop-k-preserved c =
    let k = c.loop-k.k in
    let sums = HoldsLanes-zip2 16 plus c.loop-k.sum c.chosen-sum.result c.loop-k.invariant.size c.chosen-sum.ensures.size in
    record {
      size = sums.size;
      added = λ i factor below are.
          sums.each i below
          ∙ rw (c.loop-k.invariant.added i factor below are, c.chosen-sum.ensures.each i below, are k c.loop-k-test.true) refl
          ∙ ap (partial_product factor (get_or c.args.lanes i 0)) (sym (add-one k));
    }

pub returns-clause-each : goal.returns-clause-each
unfolding product
returns-clause-each c = λ i factor below byte are.
    let all : c.loop-k.k ≡ 8 = omega arith in
    let low : factor ≡ factor % 256 = omega (arith, byte) in
    c.loop-k.invariant.added i factor below are
    ∙ ap (partial_product factor (get_or c.args.lanes i 0)) all ∙ ap (λ f. partial_product f (get_or c.args.lanes i 0) 8) low
