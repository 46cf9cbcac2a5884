-- The proof of the law `image_is_whole` in src/laws.rt.
use Rattle.dvd_layout.proofs.InOrder.{plan_of-whole}
use Rattle.dvd_layout.proofs.laws.image_is_whole.Goals as goal

pub returns : goal.returns
returns c = plan_of-whole
