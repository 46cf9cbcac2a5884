-- The proof of `Layout::blocks` in src/plan.rt.
use Rattle.std.proofs.Common.{rules}
use Rattle.dvd_layout.specs.Plan.{plan_of}
use Rattle.dvd_layout.proofs.Ranges.{zone_table-in_range}
use Rattle.dvd_layout.proofs.layout.Layout.blocks.Goals as goal

pub count_blocks-requires-clause-numbers : goal.count_blocks-requires-clause-numbers
count_blocks-requires-clause-numbers c = rw (c.deref.ensures.0, c.zone_table.ensures) (zone_table-in_range c.args.self.now c.args.zones)

pub returns : goal.returns
unfolding plan_of
returns c = search rules
