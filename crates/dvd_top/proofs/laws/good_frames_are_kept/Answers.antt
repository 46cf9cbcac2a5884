-- The proof of the law `good_frames_are_kept` in src/laws.rt.
use Rattle.dvd_top.proofs.BoundKept.{kept_good}
use Rattle.dvd_top.proofs.laws.good_frames_are_kept.Goals as goal

pub returns : goal.returns
returns c = kept_good
