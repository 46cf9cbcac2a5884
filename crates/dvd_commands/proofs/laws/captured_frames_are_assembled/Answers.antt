-- The proof of the law `captured_frames_are_assembled` in src/laws.rt.
use Rattle.dvd_commands.proofs.assemble.CapturedFrames.{assembled_so}
use Rattle.dvd_commands.proofs.laws.captured_frames_are_assembled.Goals as goal

pub returns : goal.returns
returns c = assembled_so
