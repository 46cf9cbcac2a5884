-- The proof of `combined` in src/inverse.rt.
use Rattle.std.proofs.Common.{get_or, refl, sym, ◌∙◌}
use Rattle.std.proofs.lemmas.Simd.{get_or-replicate}
use Rattle.coding.specs.Field.{plus, product}
use Rattle.coding.specs.Rows.{place}
use Rattle.rs_lanes.proofs.LaneLemmas.{HoldsLanes-zip2}
use Rattle.rs_decode.proofs.Totals.{total-more, total-none}
use Rattle.rs_decode.proofs.inverse.combined.Goals as goal

pub loop-k-init : goal.loop-k-init
loop-k-init c = record {
  size = refl;
  each = λ i below. get_or-replicate 16 i 0 0 below ∙ sym (total-none (λ k. product (place c.args.columns.now k i) (get_or c.args.sums.now k 0)));
}

pub loop-k-preserved : goal.loop-k-preserved
loop-k-preserved c =
    let columns = c.args.columns.now in
    let given = c.args.sums.now in
    let before = c.loop-k.invariant in
    let sums = HoldsLanes-zip2 16 plus c.loop-k.bytes c.mul_scalar-bytes.result before.size c.mul_scalar-bytes.ensures.size in
    record {
      size = sums.size;
      each = λ i below.
          sums.each i below
          ∙ rw (before.each i below, c.mul_scalar-bytes.ensures.each i below) (sym (total-more c.loop-k.k (λ k. product (place columns k i) (get_or given k 0))));
    }
