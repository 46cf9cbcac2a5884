-- The proof of the law `control_data_is_in_the_lead_in` in src/laws.rt.
use Rattle.dvd_layout.proofs.LeadIn.{control_data_is}
use Rattle.dvd_layout.proofs.laws.control_data_is_in_the_lead_in.Goals as goal

pub returns : goal.returns
returns c = control_data_is
