-- The proof of `dvdecc_block_is_codeword` in src/blocks.rt.
use Rattle.dvdecc_c.proofs.blocks.dvdecc_block_is_codeword.Goals as goal

pub returns : goal.returns
returns c = c.is_product.ensures
