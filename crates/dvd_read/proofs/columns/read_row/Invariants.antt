-- What each iteration of the loop in `read_row` keeps.
use Rattle.std.proofs.Common.{◌≡◌, length}
use Rattle.dvd_read.proofs.ColumnAnswers.{IsRowBefore}
use Rattle.dvd_read.proofs.columns.read_row.Given as goal

abbrev pub invariant-loop-j : goal.invariant-loop-j
invariant-loop-j l = record { size : length l.row ≡ 182; read : IsRowBefore l.columns l.i l.row l.j }
