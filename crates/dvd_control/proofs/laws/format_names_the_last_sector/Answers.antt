-- The proof of the law `format_names_the_last_sector` in src/laws.rt.
use Rattle.dvd_control.proofs.LastSectors.{last-told}
use Rattle.dvd_control.proofs.laws.format_names_the_last_sector.Goals as goal

pub returns : goal.returns
returns c = last-told
