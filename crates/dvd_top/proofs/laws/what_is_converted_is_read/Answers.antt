-- The proof of the law `what_is_converted_is_read` in src/laws.rt.
use Rattle.dvd_top.proofs.ConvertedRead.{converted_read}
use Rattle.dvd_top.proofs.laws.what_is_converted_is_read.Goals as goal

pub returns : goal.returns
returns c = converted_read
