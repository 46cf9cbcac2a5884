-- The proof of `dvdecc_cd_edc` in src/checks.rt.
use Rattle.dvdecc_c.proofs.checks.dvdecc_cd_edc.Goals as goal

pub returns : goal.returns
returns c = c.cd_edc.ensures
