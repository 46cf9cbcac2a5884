-- The proof of the law `merging_costs_no_row_more` in src/laws.rt.
use Rattle.dvd_merge.proofs.Costs.{cost_bound}
use Rattle.dvd_merge.proofs.laws.merging_costs_no_row_more.Goals as goal

pub returns : goal.returns
returns c = cost_bound
