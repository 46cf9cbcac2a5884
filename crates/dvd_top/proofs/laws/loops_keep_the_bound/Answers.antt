-- The proof of the law `loops_keep_the_bound` in src/laws.rt.
use Rattle.dvd_top.proofs.BoundKept.{loops_keep}
use Rattle.dvd_top.proofs.laws.loops_keep_the_bound.Goals as goal

pub returns : goal.returns
returns c = loops_keep
