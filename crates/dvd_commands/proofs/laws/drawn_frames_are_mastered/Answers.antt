-- The proof of the law `drawn_frames_are_mastered` in src/laws.rt.
use Rattle.dvd_commands.proofs.exercise.Blocks.{drawn_mastered}
use Rattle.dvd_commands.proofs.laws.drawn_frames_are_mastered.Goals as goal

pub returns : goal.returns
returns c = drawn_mastered
