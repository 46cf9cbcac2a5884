-- The proof of the law `sector_is_only_one` in src/laws.rt.
use Rattle.cd_sector.proofs.OneSector.{one_sector}
use Rattle.cd_sector.proofs.laws.sector_is_only_one.Goals as goal

pub returns : goal.returns
returns c = one_sector
