-- The proof of the law `a_read_fault_ends_the_input` in src/laws.rt.
use Rattle.dvd_loop.proofs.Faults.{ends_there}
use Rattle.dvd_loop.proofs.laws.a_read_fault_ends_the_input.Goals as goal

pub returns : goal.returns
returns g c = λ key. ends_there (g.C.UnitCommand.units key)
