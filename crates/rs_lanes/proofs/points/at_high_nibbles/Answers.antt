-- The proof of `at_high_nibbles` in src/points.rt.
use Rattle.std.proofs.Common.{◌/◌, ◌^◌}
use Rattle.rs_lanes.proofs.LaneLemmas.{whole_table, HoldsLanes-splat, high_nibble-small, SwzOk-nibbles, HoldsLanes-look_up}
use Rattle.rs_lanes.proofs.points.at_high_nibbles.Goals as goal

pub swizzle : goal.swizzle
swizzle c = SwzOk-nibbles 1 _ _ (HoldsLanes-splat 16 (λ a b. a / 2 ^ b) c.args.lanes 4 c.fits-lanes.0) (high_nibble-small 16 c.args.lanes c.fits-lanes.0 c.fits-lanes.1)

pub returns : goal.returns
returns c =
    HoldsLanes-look_up 1 _ _ (HoldsLanes-splat 16 (λ a b. a / 2 ^ b) c.args.lanes 4 c.fits-lanes.0) (high_nibble-small 16 c.args.lanes c.fits-lanes.0 c.fits-lanes.1)
    c.args.table.now _ (whole_table c.args.table.now c.told-table)
