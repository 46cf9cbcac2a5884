-- The proof of `a_lost_block_is_marked_whole` in src/laws.rt.
use Rattle.cap_interleave.proofs.OrderLemmas.{marked_whole}
use Rattle.cap_interleave.proofs.laws.a_lost_block_is_marked_whole.Goals as goal

pub returns : goal.returns
returns c = marked_whole
