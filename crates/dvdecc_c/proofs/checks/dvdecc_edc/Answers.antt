-- The proof of `dvdecc_edc` in src/checks.rt.
use Rattle.dvdecc_c.proofs.checks.dvdecc_edc.Goals as goal

pub returns : goal.returns
returns c = c.edc.ensures
