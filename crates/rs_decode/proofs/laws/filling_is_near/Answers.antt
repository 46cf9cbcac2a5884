-- The proof of the law `filling_is_near` in src/laws.rt.
use Rattle.rs_decode.proofs.OneNear.{filling_near}
use Rattle.rs_decode.proofs.laws.filling_is_near.Goals as goal

pub returns : goal.returns
returns c = filling_near
