-- The proof of the law `bound_is_kept` in src/laws.rt.
use Rattle.dvd_top.proofs.BoundKept.{kept}
use Rattle.dvd_top.proofs.laws.bound_is_kept.Goals as goal

pub returns : goal.returns
returns c = kept
