-- The proof of the law `what_is_done_is_determined` in src/laws.rt.
use Rattle.dvd_top.proofs.Determined.{determined}
use Rattle.dvd_top.proofs.laws.what_is_done_is_determined.Goals as goal

pub returns : goal.returns
returns c = determined
