-- The proof of `put_column` in src/column_step.rt.
use Rattle.std.proofs.Common.{refl, arith}
use Rattle.dvd_deep.proofs.ColumnPut.{put-next}
use Rattle.dvd_deep.proofs.column_step.put_column.Goals as goal

pub loop-i-preserved : goal.loop-i-preserved
loop-i-preserved c = put-next c.args.j c.args.word.now c.args.rows.now c.loop-i.rows _ c.loop-i.i (omega arith) c.requires.place refl c.loop-i.invariant
