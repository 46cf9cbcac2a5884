-- The proof of the law `message_is_encodable` in src/laws.rt.
use Rattle.rs_code.proofs.Codewords.{encodable}
use Rattle.rs_code.proofs.laws.message_is_encodable.Goals as goal

pub returns : goal.returns
returns c = encodable
