-- The proof of the law `true_bytes_give_the_block` in src/laws.rt.
use Rattle.dvd_deep.proofs.TrueBytes.{true_block_given}
use Rattle.dvd_deep.proofs.laws.true_bytes_give_the_block.Goals as goal

pub returns : goal.returns
returns c = true_block_given
