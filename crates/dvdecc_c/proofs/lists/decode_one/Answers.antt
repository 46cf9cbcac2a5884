-- The proof of `decode_one` in src/lists.rt.
use Rattle.dvdecc_c.proofs.lists.decode_one.Goals as goal

pub returns-clause-row : goal.returns-clause-row
returns-clause-row c = c.dvdecc_row_decode-status.ensures.word
