-- The proof of `Scrambler::new` in src/scrambling.rt.
use Rattle.dvd_frame.proofs.KeyWords.{blank_keys}
use Rattle.dvd_frame.proofs.scrambling.Scrambler.new.Goals as goal

pub invariant_of-result : goal.invariant_of-result
invariant_of-result c = record { made = blank_keys 0 2048 }
