-- The proof of the law `correctable_damage_is_repaired` in src/laws.rt.
use Rattle.cd_sector.proofs.GivenBack.{given_back}
use Rattle.cd_sector.proofs.laws.correctable_damage_is_repaired.Goals as goal

pub returns : goal.returns
returns c = given_back
