-- The proof of the law `captured_frames_agree` in src/laws.rt.
use Rattle.dvd_assemble.proofs.Mastered.{agree}
use Rattle.dvd_assemble.proofs.laws.captured_frames_agree.Goals as goal

pub returns : goal.returns
returns c = agree
