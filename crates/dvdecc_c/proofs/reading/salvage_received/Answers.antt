-- The proof of `salvage_received` in src/reading.rt.
use Rattle.dvdecc_c.proofs.reading.salvage_received.Goals as goal

pub returns-clause-saved : goal.returns-clause-saved
returns-clause-saved c = cc (c.salvage_each.ensures.saved, c.two_pass-found.ensures.received, c.two_pass-found.ensures.marks)
