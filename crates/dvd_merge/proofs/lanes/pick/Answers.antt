-- The proof of `pick` in src/lanes.rt.
use Rattle.dvd_merge.proofs.PlaceLanes.{HasLanes-pick}
use Rattle.dvd_merge.proofs.lanes.pick.Goals as goal

pub returns : goal.returns
returns c = HasLanes-pick c.args.a c.args.b c.args.same c.args.other c.fits-a.0 c.fits-b.0 c.fits-same.0 c.fits-other.0
