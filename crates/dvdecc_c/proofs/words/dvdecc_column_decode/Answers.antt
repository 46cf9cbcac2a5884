-- The proof of `dvdecc_column_decode` in src/words.rt.
use Rattle.dvdecc_c.proofs.words.dvdecc_column_decode.Goals as goal

pub returns-clause-status : goal.returns-clause-status
returns-clause-status c = c.decode_word.ensures.status

pub returns-clause-word : goal.returns-clause-word
returns-clause-word c = c.decode_word.ensures.word

pub returns-clause-correction : goal.returns-clause-correction
returns-clause-correction c = c.decode_word.ensures.correction
