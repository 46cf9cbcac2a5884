-- The proof of the law `faults_leave_prefixes` in src/laws.rt.
use Rattle.dvd_loop.proofs.Faults.{leave_prefixes}
use Rattle.dvd_loop.proofs.laws.faults_leave_prefixes.Goals as goal

pub returns : goal.returns
returns g c = λ key. leave_prefixes (g.C.UnitCommand.units key)
