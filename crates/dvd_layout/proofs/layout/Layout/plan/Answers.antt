-- The proof of `Layout::plan` in src/plan.rt.
use Rattle.std.proofs.Common.{rules}
use Rattle.dvd_layout.specs.Plan.{plan_of}
use Rattle.dvd_layout.proofs.Ranges.{zone_table-in_range}
use Rattle.dvd_layout.proofs.layout.Layout.plan.Goals as goal

pub block_at-requires-clause-block : goal.block_at-requires-clause-block
unfolding plan_of
block_at-requires-clause-block c = search rules

pub block_at-requires-clause-numbers : goal.block_at-requires-clause-numbers
block_at-requires-clause-numbers c = rw (c.deref.ensures.0, c.zone_table.ensures) (zone_table-in_range c.args.self.now c.args.zones)

pub returns : goal.returns
unfolding plan_of
returns c = search rules
