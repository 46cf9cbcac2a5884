-- What each iteration of the loop in `spans_from` keeps, and what it has left.
use Rattle.std.proofs.Common.{length}
use Rattle.cap_mark.specs.Walk.{AgreeFrom}
use Rattle.cap_mark.proofs.walk.spans_from.Given as goal

abbrev pub invariant-loop-left : goal.invariant-loop-left
invariant-loop-left l = AgreeFrom l.place l.left l.spans

abbrev pub decreases-loop-left : goal.decreases-loop-left
decreases-loop-left l = length l.left
