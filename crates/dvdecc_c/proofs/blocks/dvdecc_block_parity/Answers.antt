-- The proof of `dvdecc_block_parity` in src/blocks.rt.
use Rattle.dvdecc_c.proofs.blocks.dvdecc_block_parity.Goals as goal

pub returns : goal.returns
returns c = c.fill_parity.ensures.added
