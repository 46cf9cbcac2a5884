-- The proof of the law `light_codeword_is_zero` in src/laws.rt.
use Rattle.rs_code.proofs.Distance.{IsCodeword-light}
use Rattle.rs_code.proofs.laws.light_codeword_is_zero.Goals as goal

pub returns : goal.returns
returns c = IsCodeword-light
