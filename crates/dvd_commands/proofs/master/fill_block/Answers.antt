-- The proof of `fill_block` in src/master.rt.
use Rattle.std.proofs.Common.{subst, arith, below_more}
use Rattle.dvd_block.specs.Buffers.{block_rows}
use Rattle.coding.specs.Product.{HoldsFrame}
use Rattle.dvd_commands.specs.Master.{frame_for}
use Rattle.dvd_commands.proofs.BlockFrames.{holds_other, holds_kept, block_of}
use Rattle.dvd_commands.proofs.master.fill_block.Goals as goal

pub loop-f-preserved : goal.loop-f-preserved
loop-f-preserved g c =
    let frame = frame_for c.args.given.now.layout.now c.args.given.now.entry.now c.args.given.now.cpr.now c.args.given.now.sectors.now in
    below_more _ _
    (λ f lt. holds_other f c.loop-f.f (frame f) (block_rows c.loop-f.block) (block_rows c.put_frame.new.self) lt c.put_frame.ensures.other_rows (c.loop-f.invariant f lt))
    (subst (λ bytes. HoldsFrame c.loop-f.f bytes (block_rows c.put_frame.new.self)) c.write_frame.ensures c.put_frame.ensures.frame)

pub returns : goal.returns
returns g c =
    let frame = frame_for c.args.given.now.layout.now c.args.given.now.entry.now c.args.given.now.cpr.now c.args.given.now.sectors.now in
    block_of c.args.given.now.layout.now c.args.given.now.entry.now c.args.given.now.cpr.now c.args.given.now.sectors.now (block_rows c.add_by.new.block) c.add_by.ensures.product
    (λ f lt. holds_kept f (frame f) (block_rows c.loop-f.block) (block_rows c.add_by.new.block) lt c.add_by.ensures.kept (c.loop-f.invariant f (omega arith)))
