-- The proof of the law `hurt_block_is_only_one` in src/laws.rt.
use Rattle.dvd_exercise.proofs.OnlyOne.{hurt_once}
use Rattle.dvd_exercise.proofs.laws.hurt_block_is_only_one.Goals as goal

pub returns : goal.returns
returns c = hurt_once
