-- The proof of `by_low_nibble` in src/lanes.rt.
use Rattle.std.proofs.Common.{arith}
use Rattle.rs_lanes.proofs.LaneLemmas.{HoldsLanes-low_nibbles, SwzOk-nibbles, HoldsLanes-look_up}
use Rattle.rs_lanes.proofs.lanes.by_low_nibble.Goals as goal

pub swizzle : goal.swizzle
swizzle c = SwzOk-nibbles 2 _ _ (HoldsLanes-low_nibbles 32 c.args.lanes c.fits-lanes.0) (λ k below. omega arith)

pub returns : goal.returns
returns c = HoldsLanes-look_up 2 _ _ (HoldsLanes-low_nibbles 32 c.args.lanes c.fits-lanes.0) (λ k below. omega arith) c.args.table.now c.twice.result c.twice.ensures
