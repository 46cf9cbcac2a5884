-- The proof of the law `near_codeword_is_only_one` in src/laws.rt.
use Rattle.rs_decode.proofs.OneNear.{near_once}
use Rattle.rs_decode.proofs.laws.near_codeword_is_only_one.Goals as goal

pub returns : goal.returns
returns c = near_once
