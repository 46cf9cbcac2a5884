-- The proof of the law `order_of_frames_does_not_count` in src/laws.rt.
use Rattle.dvd_assemble.proofs.Assembling.{same_set}
use Rattle.dvd_assemble.proofs.laws.order_of_frames_does_not_count.Goals as goal

pub returns : goal.returns
returns c = same_set
