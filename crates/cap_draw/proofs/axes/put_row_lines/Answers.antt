-- The proof of `put_row_lines` in src/axes.rt.
use Rattle.std.proofs.Common.{arith}
use Rattle.cap_draw.specs.Axes.{row_line}
use Rattle.cap_draw.proofs.Texts.{texts_none, texts_step}
use Rattle.cap_draw.proofs.axes.put_row_lines.Goals as goal

pub loop-i-init : goal.loop-i-init
loop-i-init c = record {
  bytes = texts_none c.args.page.now (row_line c.args.plot.now);
  len = omega arith;
}

pub loop-i-preserved : goal.loop-i-preserved
loop-i-preserved c = record {
  bytes = texts_step _ (row_line c.args.plot.now) c.loop-i.i c.loop-i.invariant.bytes c.put_row_line.ensures.bytes;
  len = omega (arith, c.put_row_line.ensures.len, c.loop-i.invariant.len);
}
