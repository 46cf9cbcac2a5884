-- The proof of `count_changes` in src/repairing.rt.
use Rattle.std.proofs.Common.{get_or, arith}
use Rattle.cd_sector.proofs.Changes.{distance-next, distance-end, differ-counts, same-counts}
use Rattle.cd_sector.proofs.repairing.count_changes.Goals.{then-old-at, else-old-at}
use Rattle.cd_sector.proofs.repairing.count_changes.Goals as goal

pub loop-at-preserved : goal.loop-at-preserved
loop-at-preserved c =
    let next = distance-next c.args.old.now c.args.new.now c.loop-at.at (omega arith) (omega arith) in
    elim c.if-old-at.branch [
      | then-old-at w ↦ record {
        few = omega (arith, w.count-is, c.loop-at.invariant.few);
        so_far = omega (arith, w.count-is, next, differ-counts (get_or c.args.old.now c.loop-at.at 0) (get_or c.args.new.now c.loop-at.at 0) w.if-old-at.true, c.loop-at.invariant.so_far);
      }
      | else-old-at w ↦ record {
        few = omega (arith, w.count-is, c.loop-at.invariant.few);
        so_far = omega (arith, w.count-is, next, same-counts (get_or c.args.old.now c.loop-at.at 0) (get_or c.args.new.now c.loop-at.at 0) w.if-old-at.false, c.loop-at.invariant.so_far);
      }
    ]

pub returns : goal.returns
returns c = omega (arith, c.loop-at.invariant.so_far, distance-end c.args.old.now c.args.new.now c.loop-at.at (omega arith))
