-- The proof of the law `the_broken_field_is_found` in src/laws.rt.
use Rattle.dvd_commands.proofs.BrokenFields.{broken_found}
use Rattle.dvd_commands.proofs.laws.the_broken_field_is_found.Goals as goal

pub returns : goal.returns
returns c = broken_found
