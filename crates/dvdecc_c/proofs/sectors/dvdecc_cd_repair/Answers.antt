-- The proof of `dvdecc_cd_repair` in src/sectors.rt.
use Rattle.std.proofs.Common.{◌∙◌}
use Rattle.dvdecc_c.proofs.sectors.dvdecc_cd_repair.Goals as goal

pub returns-in-Ok-clause-repaired : goal.returns-in-Ok-clause-repaired
returns-in-Ok-clause-repaired c = λ right. c.in-Ok.ensures.repaired

pub returns-in-Ok-clause-changes : goal.returns-in-Ok-clause-changes
returns-in-Ok-clause-changes c = λ right. c.from.ensures ∙ c.in-Ok.ensures.changes
