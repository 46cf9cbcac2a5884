-- What each iteration of the loop in `put_column` keeps.
use Rattle.dvd_deep.proofs.ColumnPut.{IsPutBefore}
use Rattle.dvd_deep.proofs.column_step.put_column.Given as goal

abbrev pub invariant-loop-i : goal.invariant-loop-i
invariant-loop-i l = IsPutBefore l.j l.word l.fn.rows l.rows l.i
