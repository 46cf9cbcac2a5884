-- The proof of the law `sectors_are_faultless` in src/laws.rt.
use Rattle.cd_sector.proofs.Faultless.{faultless}
use Rattle.cd_sector.proofs.laws.sectors_are_faultless.Goals as goal

pub returns : goal.returns
returns c = faultless
