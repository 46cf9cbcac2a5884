-- The proof of `by_high_nibble` in src/lanes.rt.
use Rattle.std.proofs.Common.{◌/◌, ◌^◌}
use Rattle.rs_lanes.proofs.LaneLemmas.{HoldsLanes-splat, high_nibble-small, SwzOk-nibbles, HoldsLanes-look_up}
use Rattle.rs_lanes.proofs.lanes.by_high_nibble.Goals as goal

pub swizzle : goal.swizzle
swizzle c = SwzOk-nibbles 2 _ _ (HoldsLanes-splat 32 (λ a b. a / 2 ^ b) c.args.lanes 4 c.fits-lanes.0) (high_nibble-small 32 c.args.lanes c.fits-lanes.0 c.fits-lanes.1)

pub returns : goal.returns
returns c =
    HoldsLanes-look_up 2 _ _ (HoldsLanes-splat 32 (λ a b. a / 2 ^ b) c.args.lanes 4 c.fits-lanes.0) (high_nibble-small 32 c.args.lanes c.fits-lanes.0 c.fits-lanes.1)
    c.args.table.now c.twice.result c.twice.ensures
