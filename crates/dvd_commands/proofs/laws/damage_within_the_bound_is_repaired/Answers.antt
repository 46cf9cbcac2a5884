-- The proof of the law `damage_within_the_bound_is_repaired` in src/laws.rt.
use Rattle.dvd_commands.proofs.BlocksWithinBound.{repaired}
use Rattle.dvd_commands.proofs.laws.damage_within_the_bound_is_repaired.Goals as goal

pub returns : goal.returns
returns c = repaired
