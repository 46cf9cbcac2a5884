-- What each iteration of the loop in `first_wrong_from` keeps.
use Rattle.dvd_read.specs.Inner.Found.{AreRightFrom}
use Rattle.dvd_read.proofs.columns.first_wrong_from.Given as goal

-- the rows before are right
abbrev pub invariant-loop-n : goal.invariant-loop-n
invariant-loop-n l = AreRightFrom l.columns l.top l.n
