-- The proof of `dvdecc_salvage_block` in src/reading.rt.
use Rattle.dvdecc_c.proofs.reading.dvdecc_salvage_block.Goals as goal

pub returns-in-Err-clause-asked : goal.returns-in-Err-clause-asked
returns-in-Err-clause-asked c = c.in-Err.ensures.asked
