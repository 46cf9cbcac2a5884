-- The proof of `dvdecc_two_pass` in src/blocks.rt.
use Rattle.dvdecc_c.proofs.blocks.dvdecc_two_pass.Goals as goal

pub returns-clause-rows : goal.returns-clause-rows
returns-clause-rows c = λ found. cc (c.decode_received.ensures.rows, c.receive.ensures.rows, c.receive.ensures.marks)
