-- The proof of `Layout::push_opposite` in src/plan.rt.
use Rattle.std.proofs.Common.{append_assoc}
use Rattle.dvd_layout.proofs.layout.Layout.push_opposite.Goals as goal

pub returns-clause-items : goal.returns-clause-items
returns-clause-items c =
    rw (
      c.push-5.ensures.items,
      c.push-4.ensures.items,
      c.push-3.ensures.items,
      c.push-2.ensures.items,
      c.push.ensures.items,
      c.push_lead_in.ensures.items,
      c.zone_after-2.ensures,
      c.zeros.ensures,
      c.second_data-second.ensures,
      c.zone_after.ensures,
      c.first_data-first.ensures,
    )
    (simp append_assoc)
