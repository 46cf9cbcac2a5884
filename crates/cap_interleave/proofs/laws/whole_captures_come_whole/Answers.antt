-- The proof of `whole_captures_come_whole` in src/laws.rt.
use Rattle.cap_interleave.proofs.WholeLemmas.{whole_captures}
use Rattle.cap_interleave.proofs.laws.whole_captures_come_whole.Goals as goal

pub returns : goal.returns
returns g c = whole_captures g.S.Source.seen
