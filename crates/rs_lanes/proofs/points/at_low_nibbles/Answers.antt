-- The proof of `at_low_nibbles` in src/points.rt.
use Rattle.std.proofs.Common.{arith}
use Rattle.rs_lanes.proofs.LaneLemmas.{whole_table, HoldsLanes-low_nibbles, SwzOk-nibbles, HoldsLanes-look_up}
use Rattle.rs_lanes.proofs.points.at_low_nibbles.Goals as goal

pub swizzle : goal.swizzle
swizzle c = SwzOk-nibbles 1 _ _ (HoldsLanes-low_nibbles 16 c.args.lanes c.fits-lanes.0) (λ k below. omega arith)

pub returns : goal.returns
returns c = HoldsLanes-look_up 1 _ _ (HoldsLanes-low_nibbles 16 c.args.lanes c.fits-lanes.0) (λ k below. omega arith) c.args.table.now _ (whole_table c.args.table.now c.told-table)
