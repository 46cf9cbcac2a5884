-- The proof of the law `plan_follows_places` in src/laws.rt.
use Rattle.dvd_layout.proofs.AtPlaces.{plan_of-places}
use Rattle.dvd_layout.proofs.laws.plan_follows_places.Goals as goal

pub returns : goal.returns
returns c = plan_of-places
