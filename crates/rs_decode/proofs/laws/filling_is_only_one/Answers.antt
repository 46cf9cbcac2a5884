-- The proof of the law `filling_is_only_one` in src/laws.rt.
use Rattle.rs_decode.proofs.OneNear.{filling_once}
use Rattle.rs_decode.proofs.laws.filling_is_only_one.Goals as goal

pub returns : goal.returns
returns c = filling_once
