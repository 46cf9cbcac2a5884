-- The proof of `blocks_are_in_merge_order` in src/laws.rt.
use Rattle.cap_interleave.proofs.OrderLemmas.{merge_order}
use Rattle.cap_interleave.proofs.laws.blocks_are_in_merge_order.Goals as goal

pub returns : goal.returns
returns c = merge_order
