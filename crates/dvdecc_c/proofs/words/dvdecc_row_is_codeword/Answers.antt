-- The proof of `dvdecc_row_is_codeword` in src/words.rt.
use Rattle.dvdecc_c.proofs.words.dvdecc_row_is_codeword.Goals as goal

pub returns : goal.returns
returns c = c.is_codeword.ensures
