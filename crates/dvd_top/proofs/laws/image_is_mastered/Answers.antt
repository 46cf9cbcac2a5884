-- The proof of the law `image_is_mastered` in src/laws.rt.
use Rattle.dvd_top.proofs.MasteredStream.{image_mastered}
use Rattle.dvd_top.proofs.laws.image_is_mastered.Goals as goal

pub returns : goal.returns
returns c = image_mastered
