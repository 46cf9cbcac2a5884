-- The proof of the law `within_is_read_back` in src/laws.rt.
use Rattle.dvd_read.proofs.Mastered.{within-read}
use Rattle.dvd_read.proofs.laws.within_is_read_back.Goals as goal

pub returns : goal.returns
returns c = within-read
