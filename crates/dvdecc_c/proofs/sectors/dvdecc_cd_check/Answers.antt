-- The proof of `dvdecc_cd_check` in src/sectors.rt.
use Rattle.dvdecc_c.proofs.sectors.dvdecc_cd_check.Goals as goal

pub returns-in-Ok-clause-answered : goal.returns-in-Ok-clause-answered
returns-in-Ok-clause-answered c = λ below. c.in-Ok.ensures.right

pub returns-in-Err-clause-answered : goal.returns-in-Err-clause-answered
returns-in-Err-clause-answered c = λ below. rw c.report_cause.ensures.reported c.in-Err.ensures.refused
