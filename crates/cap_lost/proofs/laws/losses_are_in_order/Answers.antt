-- The proof of `losses_are_in_order` in src/laws.rt.
use Rattle.cap_lost.proofs.LossLemmas.{in_order}
use Rattle.cap_lost.proofs.laws.losses_are_in_order.Goals as goal

pub returns : goal.returns
returns c = in_order
