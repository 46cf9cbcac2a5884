-- The proof of the law `something_is_done` in src/laws.rt.
use Rattle.dvd_top.proofs.SomethingDone.{something}
use Rattle.dvd_top.proofs.laws.something_is_done.Goals as goal

pub returns : goal.returns
returns c = something
