-- The proof of the law `info_finds_the_first_answer` in src/laws.rt.
use Rattle.dvd_commands.proofs.info.Found.{found}
use Rattle.dvd_commands.proofs.laws.info_finds_the_first_answer.Goals as goal

pub returns : goal.returns
returns c = found
