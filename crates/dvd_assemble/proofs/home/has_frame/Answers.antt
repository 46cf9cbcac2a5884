-- The proof of `has_frame` in src/home.rt.
use Rattle.std.proofs.Common.{◌∙◌, ◌+◌, Bool, ap, sym}
use Rattle.std.proofs.lemmas.Option.{get_or_from_slice_get}
use Rattle.dvd_frame.specs.Id.{id_word, is_same_place}
use Rattle.dvd_layout.specs.Plan.{plan_of}
use Rattle.dvd_layout.specs.declared.entry.BlockPlan.{BlockPlan}
use Rattle.dvd_layout.specs.declared.layout.Zones.TheVariants.{DataOnly}
use Rattle.dvd_assemble.proofs.Homes.{has_numbers, tells_place, word-at, word_of}
use Rattle.dvd_assemble.proofs.home.has_frame.Goals as goal

pub id_of-requires-clause-numbers : goal.id_of-requires-clause-numbers
id_of-requires-clause-numbers c = has_numbers c.args.layout.now c.args.k c.plan-entry.result c.plan-entry.ensures

pub returns : goal.returns
returns c =
    let layout = c.args.layout.now in
    let entry = c.plan-entry.result in
    tells_place c.same_place.result c.args.id c.id_of.result c.same_place.ensures
    ∙ ap (is_same_place c.args.id) (c.id_of.ensures ∙ ap (λ (dim : Bool). id_word entry.area entry.layer dim (entry.first + c.args.f)) c.dim.ensures
    ∙ sym (ap (λ (e : BlockPlan). word_of layout e c.args.f) (get_or_from_slice_get (plan_of layout DataOnly) c.args.k entry entry c.plan-entry.ensures))
    ∙ sym (word-at layout c.args.k c.args.f entry c.requires.block c.requires.frame))
