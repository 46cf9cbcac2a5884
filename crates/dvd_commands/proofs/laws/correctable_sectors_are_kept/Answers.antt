-- The proof of the law `correctable_sectors_are_kept` in src/laws.rt.
use Rattle.dvd_commands.proofs.cd_read.Kept.{kept_sectors}
use Rattle.dvd_commands.proofs.laws.correctable_sectors_are_kept.Goals as goal

pub returns : goal.returns
returns c = kept_sectors
