-- The proof of `the_lost_are_those_of_refused_blocks` in src/laws.rt.
use Rattle.cap_lost.proofs.LossLemmas.{lost_of_refused}
use Rattle.cap_lost.proofs.laws.the_lost_are_those_of_refused_blocks.Goals as goal

pub returns : goal.returns
returns c = lost_of_refused
