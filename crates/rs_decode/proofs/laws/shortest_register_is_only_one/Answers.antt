-- The proof of the law `shortest_register_is_only_one` in src/laws.rt.
use Rattle.rs_decode.proofs.OnlyRegister.{only_register}
use Rattle.rs_decode.proofs.laws.shortest_register_is_only_one.Goals as goal

pub returns : goal.returns
returns c = only_register
