-- The proof of the law `workers_change_nothing` in src/laws.rt.
use Rattle.dvd_top.proofs.WorkersAlike.{workers_alike}
use Rattle.dvd_top.proofs.laws.workers_change_nothing.Goals as goal

pub returns : goal.returns
returns c = workers_alike
