-- The proof of `block_said` in src/block.rt.
use Rattle.std.proofs.Common.{subst}
use Rattle.std.proofs.lemmas.Option.{get_or_from_slice_get, slice_get_within}
use Rattle.dvd_layout.specs.Place.{HasNumbers}
use Rattle.dvd_layout.specs.Plan.{plan_of}
use Rattle.dvd_layout.proofs.Ranges.{plan_of-numbers}
use Rattle.cap_lost.proofs.block.block_said.Goals as goal

pub place_said-requires : goal.place_said-requires
place_said-requires c =
    let plan = plan_of c.args.layout.now c.args.zones in
    let entry = c.plan.result in
    subst HasNumbers (get_or_from_slice_get plan c.in-Some.k entry entry c.plan.ensures)
    (plan_of-numbers c.args.layout.now c.args.zones c.in-Some.k entry (slice_get_within plan c.in-Some.k entry c.plan.ensures))
