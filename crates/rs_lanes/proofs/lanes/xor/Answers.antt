-- The proof of `xor` in src/lanes.rt.
use Rattle.coding.specs.Field.{plus}
use Rattle.rs_lanes.proofs.LaneLemmas.{HoldsLanes-zip2}
use Rattle.rs_lanes.proofs.lanes.xor.Goals as goal

pub returns : goal.returns
returns c = HoldsLanes-zip2 32 plus c.args.a c.args.b c.fits-a.0 c.fits-b.0
