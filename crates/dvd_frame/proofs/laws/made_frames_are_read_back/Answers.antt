-- The proof of the law `made_frames_are_read_back` in src/laws.rt.
use Rattle.dvd_frame.proofs.ReadBack.{read_back}
use Rattle.dvd_frame.proofs.laws.made_frames_are_read_back.Goals as goal

pub returns : goal.returns
returns c = read_back
