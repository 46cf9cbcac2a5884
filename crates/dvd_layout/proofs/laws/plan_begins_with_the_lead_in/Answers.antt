-- The proof of the law `plan_begins_with_the_lead_in` in src/laws.rt.
use Rattle.dvd_layout.proofs.LeadIn.{plan_begins}
use Rattle.dvd_layout.proofs.laws.plan_begins_with_the_lead_in.Goals as goal

pub returns : goal.returns
returns c = plan_begins
