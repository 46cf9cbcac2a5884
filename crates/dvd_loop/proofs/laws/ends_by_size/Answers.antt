-- The proof of the law `ends_by_size` in src/laws.rt.
use Rattle.dvd_loop.proofs.EndsBySize.{ends_so}
use Rattle.dvd_loop.proofs.laws.ends_by_size.Goals as goal

pub returns : goal.returns
returns g c = λ key. ends_so (g.C.UnitCommand.units key)
