-- The proof of `evaluator` in src/forney.rt.
use Rattle.std.proofs.Common.{◌≡◌, length, take, ap, sym, ◌∙◌, arith}
use Rattle.std.proofs.lemmas.List.{take_all}
use Rattle.coding.specs.Words.{value}
use Rattle.rs_code.specs.Inner.PowerSums.{power_sum}
use Rattle.rs_decode.specs.Inner.Locator.{at_points, slope}
use Rattle.rs_decode.proofs.Evaluator.{IsEvaluated-start, IsEvaluated-next, lanes-bytes}
use Rattle.rs_decode.proofs.forney.evaluator.Goals as goal

pub loop-point-init : goal.loop-point-init
loop-point-init c = record {
  size = omega arith;
  evaluated = λ bytes are. IsEvaluated-start c.args.points.now bytes c.args.sums.now c.as_prefix-lanes.result c.as_prefix-lanes.ensures are;
}

pub loop-point-preserved : goal.loop-point-preserved
loop-point-preserved c =
    let before = c.loop-point.invariant in
    record {
      size = c.times_distance-lanes.ensures.size;
      evaluated = λ bytes are.
          IsEvaluated-next c.args.points.now bytes c.loop-point.lanes c.times_distance-lanes.result (length c.args.sums.now) c.loop-point.point-index (omega arith) c.requires.enough c.requires.room
          before.size c.times_distance-lanes.ensures.size (lanes-bytes c.loop-point.lanes c.loop-point.auto.lanes.1)
          (lanes-bytes c.times_distance-lanes.result c.type_inv.lanes.1) c.times_distance-lanes.ensures.first c.times_distance-lanes.ensures.each (before.evaluated bytes are);
    }

pub returns-clause-values : goal.returns-clause-values
returns-clause-values c = λ bytes are x.
    let points = c.args.points.now in
    let whole : take c.loop-point.point-index points ≡ points = take_all c.loop-point.point-index points (omega arith) in
    let all : c.loop-point.point-index ≡ length points = omega arith in
    ap (λ n. value (take n c.loop-point.lanes) x) (sym all) ∙ (c.loop-point.invariant.evaluated bytes are).values x
    ∙ ap (λ xs. power_sum (at_points (slope xs x) bytes points) points 0) whole
