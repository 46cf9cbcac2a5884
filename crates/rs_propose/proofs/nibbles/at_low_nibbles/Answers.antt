-- The proof of `at_low_nibbles` in src/nibbles.rt.
use Rattle.std.proofs.Common.{arith}
use Rattle.rs_lanes.proofs.LaneLemmas.{HoldsLanes-low_nibbles, SwzOk-nibbles}
use Rattle.rs_propose.proofs.nibbles.at_low_nibbles.Goals as goal

pub swizzle : goal.swizzle
swizzle c = SwzOk-nibbles 2 _ _ (HoldsLanes-low_nibbles 32 c.args.lanes c.fits-lanes.0) (λ k below. omega arith)
