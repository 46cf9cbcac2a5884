-- What each iteration of the loop in `of` keeps.
use Rattle.dvd_read.proofs.NotedRows.{AreNoted}
use Rattle.dvd_read.proofs.failed.FailedRows.of.Given as goal

abbrev pub invariant-loop-i : goal.invariant-loop-i
invariant-loop-i l = AreNoted l.answers l.failed.marks l.i
