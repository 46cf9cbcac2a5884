-- The proof of `dvdecc_row_parity` in src/words.rt.
use Rattle.dvdecc_c.proofs.words.dvdecc_row_parity.Goals as goal

pub returns : goal.returns
returns c = c.encode.ensures
