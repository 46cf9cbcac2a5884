-- The proof of the law `image_is_taken_whole` in src/laws.rt.
use Rattle.dvd_commands.proofs.master.ImageTaken.{whole}
use Rattle.dvd_commands.proofs.laws.image_is_taken_whole.Goals as goal

pub returns : goal.returns
returns c = whole
