-- The proof of the law `two_pass_is_round_one` in src/laws.rt.
use Rattle.dvd_deep.proofs.RoundOne.{two_pass_first}
use Rattle.dvd_deep.proofs.laws.two_pass_is_round_one.Goals as goal

pub returns : goal.returns
returns c = two_pass_first
