-- What each iteration of the loop in `Merge::take` keeps.
use Rattle.dvd_capture.specs.Works.{marks_of_work, rows_of}
use Rattle.dvd_merge.specs.Merges.{table_of}
use Rattle.dvd_merge.proofs.Tables.{AreTaken}
use Rattle.dvd_merge.proofs.merge.Merge.take.Given as goal

abbrev pub invariant-loop-i : goal.invariant-loop-i
invariant-loop-i l = AreTaken (table_of l.fn.self) (table_of l.self) (rows_of l.work) (marks_of_work l.work) l.i
