-- The proof of the law `some_sector` in src/laws.rt.
use Rattle.cd_sector.proofs.laws.some_sector.Goals as goal
use Rattle.cd_sector.proofs.SomeSector.{some_sector}

pub returns : goal.returns
returns c = some_sector
