-- The proof of the law `hurt_block_is_within_the_bound` in src/laws.rt.
use Rattle.dvd_exercise.proofs.Bound.{hurt_within}
use Rattle.dvd_exercise.proofs.laws.hurt_block_is_within_the_bound.Goals as goal

pub returns : goal.returns
returns c = hurt_within
