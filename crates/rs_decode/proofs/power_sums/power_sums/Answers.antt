-- The proof of `power_sums` in src/power_sums.rt.
use Rattle.std.proofs.Common.{◌≡◌, ◌-◌, ◌∙◌, suc, drop, get_or, refl, sym, ap, arith}
use Rattle.std.proofs.lemmas.Simd.{get_or-replicate}
use Rattle.coding.specs.Field.{plus, product}
use Rattle.rs_code.specs.Inner.PowerSums.{power_sum}
use Rattle.rs_lanes.proofs.LaneLemmas.{HoldsLanes-zip2}
use Rattle.rs_decode.proofs.LaneSums.{power_sum-end, power_sum-lane}
use Rattle.rs_decode.proofs.power_sums.power_sums.Goals as goal

pub loop-i-init : goal.loop-i-init
loop-i-init c = record {
  size = refl;
  each = λ k below. get_or-replicate 16 k 0 0 below ∙ sym (power_sum-end c.args.bytes.now c.args.points.now k c.requires.fits);
}

pub loop-i-preserved : goal.loop-i-preserved
loop-i-preserved c =
    let bytes = c.args.bytes.now in
    let points = c.args.points.now in
    let i = c.loop-i.i - 1 in
    let before = c.loop-i.invariant in
    let up : suc i ≡ c.loop-i.i = omega arith in
    let sums = HoldsLanes-zip2 16 plus c.loop-i.sums c.mul_scalar-sums.result before.size c.mul_scalar-sums.ensures.size in
    record {
      size = sums.size;
      each = λ k below.
          sums.each k below
          ∙ power_sum-lane bytes points i k c.log.result (get_or c.loop-i.sums k 0) (get_or c.mul_scalar-sums.result k 0) (omega (arith, c.requires.fits)) (omega arith) c.log.ensures.reaches
          (before.each k below ∙ ap (λ n. power_sum (drop n bytes) (drop n points) k) (sym up))
          (c.mul_scalar-sums.ensures.each k below ∙ ap (λ x. product x (get_or bytes i 0)) (c.powers.ensures.each k below));
    }
