-- The proof of `dvdecc_cd_make` in src/sectors.rt.
use Rattle.dvdecc_c.proofs.sectors.dvdecc_cd_make.Goals as goal

pub returns-clause-sector : goal.returns-clause-sector
returns-clause-sector c = λ below. c.make.ensures
