-- The proof of the law `faultless_has_no_cause` in src/laws.rt.
use Rattle.cd_sector.proofs.OneSector.{no_cause}
use Rattle.cd_sector.proofs.laws.faultless_has_no_cause.Goals as goal

pub returns : goal.returns
returns c = no_cause
