-- The proof of the law `what_is_read_is_determined` in src/laws.rt.
use Rattle.dvd_read.proofs.BlockRead.{read-determined}
use Rattle.dvd_read.proofs.laws.what_is_read_is_determined.Goals as goal

pub returns : goal.returns
returns c = read-determined
