-- The proof of `either` in src/lanes.rt.
use Rattle.std.proofs.Common.{bit_or, get_or, ◌∙◌, sym}
use Rattle.rs_lanes.proofs.LaneLemmas.{HoldsLanes-zip2, either-zero}
use Rattle.rs_lanes.proofs.lanes.either.Goals as goal

pub returns-clause-size : goal.returns-clause-size
returns-clause-size c = (HoldsLanes-zip2 32 bit_or c.args.a c.args.b c.fits-a.0 c.fits-b.0).size

pub returns-clause-zeros : goal.returns-clause-zeros
returns-clause-zeros c = λ k below.
    let is = (HoldsLanes-zip2 32 bit_or c.args.a c.args.b c.fits-a.0 c.fits-b.0).each k below in
    let says = either-zero (get_or c.args.a k 0) (get_or c.args.b k 0) in
    ((λ zero_is. says.0 (sym is ∙ zero_is)), (λ both. is ∙ says.1 both))
