-- The proof of `dvdecc_column_parity` in src/words.rt.
use Rattle.dvdecc_c.proofs.words.dvdecc_column_parity.Goals as goal

pub returns : goal.returns
returns c = c.encode.ensures
