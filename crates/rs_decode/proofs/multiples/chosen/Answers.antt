-- The proof of `chosen` in src/multiples.rt.
use Rattle.rs_decode.proofs.Bits.{HoldsLanes-chosen}
use Rattle.rs_decode.proofs.multiples.chosen.Goals as goal

pub returns : goal.returns
returns c = HoldsLanes-chosen c.args.lanes c.args.multiples c.args.k c.fits-lanes.0 c.fits-multiples.0
