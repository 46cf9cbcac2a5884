-- What each iteration of the loop in `fill_block` keeps.
use Rattle.std.proofs.Common.{ℕ, ◌<◌}
use Rattle.dvd_block.specs.Buffers.{block_rows}
use Rattle.coding.specs.Product.{HoldsFrame}
use Rattle.dvd_commands.specs.Master.{frame_for}
use Rattle.dvd_commands.proofs.master.fill_block.Given as goal

abbrev pub invariant-loop-f : goal.invariant-loop-f
invariant-loop-f g l = (f : ℕ) → f < l.f → HoldsFrame f (frame_for l.given.layout.now l.given.entry.now l.given.cpr.now l.given.sectors.now f) (block_rows l.block)
