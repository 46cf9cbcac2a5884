-- What each iteration of the loop in `are_many` keeps.
use Rattle.std.proofs.Common.{◌≤◌}
use Rattle.dvd_read.proofs.row_group.are_many.Given as goal

abbrev pub invariant-loop-k : goal.invariant-loop-k
invariant-loop-k l = l.alone ≤ l.k
