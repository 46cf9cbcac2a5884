-- The proof of `lead_in_block` in src/plan.rt.
use Rattle.std.proofs.Common.{◌≡◌, ◌∙◌, ◌++◌, ◌<◌, List, length, Some, slice_get, ap, subst, sym, arith}
use Rattle.std.specs.List.{flat_map}
use Rattle.dvd_layout.specs.Plan.{entries_of, lead_in, lead_in_blocks}
use Rattle.dvd_layout.specs.declared.zone.Zone.{Zone}
use Rattle.dvd_layout.proofs.LeadIn.{length-lead_in_blocks}
use Rattle.dvd_layout.proofs.Ranges.{zones-of_lead_in}
use Rattle.dvd_layout.proofs.plan.lead_in_block.Goals as goal

-- the table has the zones of the lead-in
table : (c : goal.After-from) → c.deref.result.now ≡ lead_in c.args.initial 0
table c = c.deref.ensures.0 ∙ c.push_lead_in.ensures.items ∙ ap (λ (zones : List Zone). zones ++ lead_in c.args.initial 0) c.new-table.ensures

pub block_at-requires-clause-block : goal.block_at-requires-clause-block
unfolding lead_in_blocks
block_at-requires-clause-block c =
    let size = length-lead_in_blocks c.args.initial in
    subst (λ zones. c.from.result < length (flat_map entries_of zones)) (sym (table c)) (omega (arith, size, c.from.ensures, c.requires.block))

pub block_at-requires-clause-numbers : goal.block_at-requires-clause-numbers
block_at-requires-clause-numbers c = rw (table c) (zones-of_lead_in c.args.initial c.requires.initial)

pub returns : goal.returns
unfolding lead_in_blocks
returns c =
    let zones = c.deref.ensures.0 ∙ c.push_lead_in.ensures.items ∙ ap (λ (zones : List Zone). zones ++ lead_in c.args.initial 0) c.new-table.ensures in
    subst (λ k. slice_get (flat_map entries_of (lead_in c.args.initial 0)) k ≡ Some c.block_at.result) c.from.ensures
    (subst (λ zones. slice_get (flat_map entries_of zones) c.from.result ≡ Some c.block_at.result) zones c.block_at.ensures)
