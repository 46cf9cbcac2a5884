-- The proof of `put_block_ticks` in src/axes.rt.
use Rattle.std.proofs.Common.{◌∙◌, ◌++◌, ap, arith, min}
use Rattle.cap_draw.specs.Axes.{block_tick}
use Rattle.cap_draw.specs.Plot.{share}
use Rattle.cap_draw.proofs.Texts.{texts_none, texts_step}
use Rattle.cap_draw.proofs.axes.put_block_ticks.Goals as goal

pub loop-i-init : goal.loop-i-init
loop-i-init c = record {
  bytes = texts_none c.args.page.now (λ k. block_tick c.args.blocks c.args.width (share k c.args.blocks (min c.args.blocks 5)));
  len = omega arith;
}

pub loop-i-preserved : goal.loop-i-preserved
loop-i-preserved c = record {
  bytes = texts_step _ (λ k. block_tick c.args.blocks c.args.width (share k c.args.blocks (min c.args.blocks 5))) c.loop-i.i c.loop-i.invariant.bytes
      (c.put_block_tick.ensures.bytes ∙ ap (λ block. c.loop-i.page ++ block_tick c.args.blocks c.args.width block)
      (c.share.ensures.share ∙ ap (share c.loop-i.i c.args.blocks) c.min-parts.ensures));
  len = omega (arith, c.put_block_tick.ensures.len, c.loop-i.invariant.len);
}
