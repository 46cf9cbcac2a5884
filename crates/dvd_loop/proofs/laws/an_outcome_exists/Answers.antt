-- The proof of the law `an_outcome_exists` in src/laws.rt.
use Rattle.dvd_loop.proofs.Totality.{exists}
use Rattle.dvd_loop.proofs.laws.an_outcome_exists.Goals as goal

pub returns : goal.returns
returns g c = λ key. exists (g.C.UnitCommand.units key)
