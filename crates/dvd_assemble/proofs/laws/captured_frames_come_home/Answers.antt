-- The proof of the law `captured_frames_come_home` in src/laws.rt.
use Rattle.dvd_assemble.proofs.Mastered.{come_home}
use Rattle.dvd_assemble.proofs.laws.captured_frames_come_home.Goals as goal

pub returns : goal.returns
returns c = come_home
