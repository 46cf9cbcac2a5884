-- The proof of the law `scrambling_twice_undoes_it` in src/laws.rt.
use Rattle.dvd_frame.proofs.Masking.{masked_twice}
use Rattle.dvd_frame.proofs.laws.scrambling_twice_undoes_it.Goals as goal

pub returns : goal.returns
returns c = masked_twice
