-- The proof of the law `plan_numbers_have_24_bits` in src/laws.rt.
use Rattle.dvd_layout.proofs.Ranges.{plan_of-numbers}
use Rattle.dvd_layout.proofs.laws.plan_numbers_have_24_bits.Goals as goal

pub returns : goal.returns
returns c = plan_of-numbers
