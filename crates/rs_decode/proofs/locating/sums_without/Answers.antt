-- The proof of `sums_without` in src/locating.rt.
use Rattle.std.proofs.Common.{◌≡◌, ◌-◌, length, length-take, sym, ap, subst, arith}
use Rattle.rs_code.proofs.Generator.{refill-same}
use Rattle.rs_decode.specs.Inner.Sums.{AreSums}
use Rattle.rs_decode.proofs.MarksTakenOut.{AreSums-all, AreSums-next}
use Rattle.rs_decode.proofs.locating.sums_without.Goals as goal

pub loop-point-init : goal.loop-point-init
loop-point-init c =
    let copied : c.unwrap-left.result.items ≡ c.args.sums.now = (rw c.unwrap-left.ensures at c.try_from.ensures).0 in
    record {
      len = omega (arith, ap length copied);
      are = λ places bytes are. AreSums-all places bytes c.unwrap-left.result.items (subst (AreSums places bytes) (sym copied) are);
    }

pub loop-point-preserved : goal.loop-point-preserved
loop-point-preserved c =
    let i = c.loop-point.point-index in
    let sums = c.loop-point.left.items in
    let shifted = c.take_out_point.new.sums in
    let points = c.args.points.now in
    let same : length shifted ≡ length sums = omega (arith, ap length c.deref_mut.ensures.value) in
    let kept = refill-same (length sums) sums shifted same in
    let after_is = rw kept at c.pop.ensures.rest in
    let shorter = ap length after_is in
    record {
      len = omega (arith, length-take (length shifted - 1) shifted);
      are = λ places bytes are.
          AreSums-next places bytes sums shifted c.pop.new.self.items points i (omega arith) (omega arith) same (λ k below. rw c.deref_mut.ensures.value at (c.take_out_point.ensures k (omega (arith, ap length c.deref_mut.ensures.value)))) after_is (c.loop-point.invariant.are places bytes are);
    }
