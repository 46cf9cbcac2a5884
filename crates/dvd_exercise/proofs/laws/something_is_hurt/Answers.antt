-- The proof of the law `something_is_hurt` in src/laws.rt.
use Rattle.dvd_exercise.proofs.SomeHurt.{some_hurt}
use Rattle.dvd_exercise.proofs.laws.something_is_hurt.Goals as goal

pub returns : goal.returns
returns c = some_hurt
