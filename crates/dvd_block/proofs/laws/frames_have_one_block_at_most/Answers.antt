-- The proof of the law `frames_have_one_block_at_most` in src/laws.rt.
use Rattle.dvd_block.proofs.OneBlock.{one_block_at_most}
use Rattle.dvd_block.proofs.laws.frames_have_one_block_at_most.Goals as goal

pub returns : goal.returns
returns c = one_block_at_most
