-- The proof of `put_columns` in src/bars.rt.
use Rattle.std.proofs.Common.{◌∙◌, ◌++◌, ap, arith}
use Rattle.cap_draw.specs.Bars.{column_text}
use Rattle.cap_draw.specs.Columns.{column_of}
use Rattle.cap_draw.proofs.Texts.{texts_none, texts_step}
use Rattle.cap_draw.proofs.bars.put_columns.Goals as goal

pub loop-c-init : goal.loop-c-init
loop-c-init c = record {
  bytes = texts_none c.args.page.now (λ k. column_text c.args.part c.args.plot.now.scale (column_of c.args.cells.now c.args.plot.now k));
  len = omega arith;
}

pub loop-c-preserved : goal.loop-c-preserved
loop-c-preserved c = record {
  bytes = texts_step _ (λ k. column_text c.args.part c.args.plot.now.scale (column_of c.args.cells.now c.args.plot.now k)) c.loop-c.c c.loop-c.invariant.bytes
      (c.put_column.ensures.bytes ∙ ap (λ column. c.loop-c.page ++ column_text c.args.part c.args.plot.now.scale column) c.column_of.ensures);
  len = omega (arith, c.put_column.ensures.len, c.loop-c.invariant.len);
}
