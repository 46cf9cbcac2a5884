-- The proof of `at_high_nibbles` in src/nibbles.rt.
use Rattle.std.proofs.Common.{◌/◌, ◌^◌}
use Rattle.rs_lanes.proofs.LaneLemmas.{HoldsLanes-splat, high_nibble-small, SwzOk-nibbles}
use Rattle.rs_propose.proofs.nibbles.at_high_nibbles.Goals as goal

pub swizzle : goal.swizzle
swizzle c = SwzOk-nibbles 2 _ _ (HoldsLanes-splat 32 (λ a b. a / 2 ^ b) c.args.lanes 4 c.fits-lanes.0) (high_nibble-small 32 c.args.lanes c.fits-lanes.0 c.fits-lanes.1)
