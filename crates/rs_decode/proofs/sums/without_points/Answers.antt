-- The proof of `without_points` in src/sums.rt.
use Rattle.std.proofs.Common.{◌≡◌, ◌-◌, ◌∙◌, ap, sym, subst, length, take, arith}
use Rattle.rs_decode.specs.Inner.Sums.{AreSums}
use Rattle.rs_decode.proofs.MarksTakenOut.{AreSums-all, AreSums-next_lanes}
use Rattle.rs_decode.proofs.sums.without_points.Goals as goal

pub loop-point-init : goal.loop-point-init
loop-point-init c =
    let sums = c.args.sums.now in
    let left = c.as_prefix-left.result in
    let none : length sums - 0 ≡ length sums = omega arith in
    let all : take (length sums - 0) left ≡ sums = ap (λ n. take n left) none ∙ c.as_prefix-left.ensures in
    record {
      size = omega arith;
      are = λ places bytes are. AreSums-all places bytes (take (length sums - 0) left) (subst (AreSums places bytes) (sym all) are);
    }

pub loop-point-preserved : goal.loop-point-preserved
loop-point-preserved c =
    let before = c.loop-point.invariant in
    record {
      size = c.without-left.ensures.size;
      are = λ places bytes are.
          AreSums-next_lanes places bytes c.loop-point.left c.without-left.result c.args.points.now (length c.args.sums.now) c.loop-point.point-index (omega arith) c.requires.enough c.requires.few before.size
          c.without-left.ensures.size c.without-left.ensures.each (before.are places bytes are);
    }
