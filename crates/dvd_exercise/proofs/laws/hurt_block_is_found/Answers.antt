-- The proof of the law `hurt_block_is_found` in src/laws.rt.
use Rattle.dvd_exercise.proofs.Widths.{hurt_agrees}
use Rattle.dvd_exercise.proofs.laws.hurt_block_is_found.Goals as goal

pub returns : goal.returns
returns c = hurt_agrees
