-- The proof of the law `message_is_encoded_once` in src/laws.rt.
use Rattle.rs_code.proofs.Codewords.{encoded_once}
use Rattle.rs_code.proofs.laws.message_is_encoded_once.Goals as goal

pub returns : goal.returns
returns c = encoded_once
