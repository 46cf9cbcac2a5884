-- The proof of the law `layouts_break_no_rule` in src/laws.rt.
use Rattle.dvd_layout.proofs.NoFault.{no_fault}
use Rattle.dvd_layout.proofs.laws.layouts_break_no_rule.Goals as goal

pub returns : goal.returns
returns c = no_fault
