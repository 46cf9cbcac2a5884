-- The proof of the law `layout_is_by_lengths` in src/laws.rt.
use Rattle.dvd_layout.proofs.SameLengths.{same_lengths-same}
use Rattle.dvd_layout.proofs.laws.layout_is_by_lengths.Goals as goal

pub returns : goal.returns
returns c = same_lengths-same
