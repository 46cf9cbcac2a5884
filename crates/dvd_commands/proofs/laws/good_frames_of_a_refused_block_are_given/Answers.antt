-- The proof of the law `good_frames_of_a_refused_block_are_given` in src/laws.rt.
use Rattle.dvd_commands.proofs.recover.Rescues.{given_good}
use Rattle.dvd_commands.proofs.laws.good_frames_of_a_refused_block_are_given.Goals as goal

pub returns : goal.returns
returns c = given_good
