-- The proof of the law `close_codewords_are_equal` in src/laws.rt.
use Rattle.rs_code.proofs.Distance.{IsCodeword-close}
use Rattle.rs_code.proofs.laws.close_codewords_are_equal.Goals as goal

pub returns : goal.returns
returns c = IsCodeword-close
