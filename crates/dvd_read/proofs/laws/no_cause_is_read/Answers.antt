-- The proof of the law `no_cause_is_read` in src/laws.rt.
use Rattle.dvd_read.proofs.BlockRead.{no_cause-read}
use Rattle.dvd_read.proofs.laws.no_cause_is_read.Goals as goal

pub returns : goal.returns
returns c = no_cause-read
