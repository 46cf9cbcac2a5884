-- The proof of `read_row` in src/columns.rt.
use Rattle.std.proofs.Common.{arith}
use Rattle.dvd_read.proofs.ColumnAnswers.{row_read}
use Rattle.dvd_read.proofs.columns.read_row.Goals as goal

pub returns : goal.returns
returns c = row_read c.args.columns.now c.args.i c.loop-j.row c.requires.row c.requires.columns c.loop-j.invariant.size (λ k d below. c.loop-j.invariant.read k d (omega arith))
