-- The proof of the law `outcomes_agree` in src/laws.rt.
use Rattle.dvd_loop.proofs.Determinacy.{agrees}
use Rattle.dvd_loop.proofs.laws.outcomes_agree.Goals as goal

pub returns : goal.returns
returns g c = λ key. agrees (g.C.UnitCommand.units key)
