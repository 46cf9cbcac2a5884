-- The proof of the law `frames_have_some_block` in src/laws.rt.
use Rattle.dvd_block.proofs.OneBlock.{some_block}
use Rattle.dvd_block.proofs.laws.frames_have_some_block.Goals as goal

pub returns : goal.returns
returns c = some_block
