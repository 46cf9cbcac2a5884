-- The proof of the law `image_is_in_order` in src/laws.rt.
use Rattle.dvd_layout.proofs.InOrder.{plan_of-in_order}
use Rattle.dvd_layout.proofs.laws.image_is_in_order.Goals as goal

pub returns : goal.returns
returns c = plan_of-in_order
