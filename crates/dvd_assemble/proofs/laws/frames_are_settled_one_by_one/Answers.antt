-- The proof of the law `frames_are_settled_one_by_one` in src/laws.rt.
use Rattle.dvd_assemble.proofs.Assembling.{one_more}
use Rattle.dvd_assemble.proofs.laws.frames_are_settled_one_by_one.Goals as goal

pub returns : goal.returns
returns c = one_more
