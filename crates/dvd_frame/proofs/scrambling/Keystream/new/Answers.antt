-- The proof of `Keystream::new` in src/scrambling.rt.
use Rattle.std.proofs.Common.{refl}
use Rattle.dvd_frame.specs.Scrambling.{window}
use Rattle.dvd_frame.specs.Scrambling.{sequence}
use Rattle.dvd_frame.proofs.scrambling.Keystream.new.Goals as goal

pub returns : goal.returns
unfolding window sequence
returns c = refl
