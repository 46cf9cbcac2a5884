-- What each iteration of the loop in `evaluator` keeps.
use Rattle.std.proofs.Common.{◌≡◌, List, ℕ, length}
use Rattle.rs_decode.specs.Inner.Sums.{AreSums}
use Rattle.rs_decode.proofs.Evaluator.{IsEvaluated}
use Rattle.rs_decode.proofs.forney.evaluator.Given as goal

-- the points so far are taken in
abbrev pub invariant-loop-point : goal.invariant-loop-point
invariant-loop-point l = record {
  size : length l.lanes ≡ 32;
  evaluated : (bytes : List ℕ) → AreSums l.points bytes l.sums → IsEvaluated l.points bytes (length l.sums) l.point-index l.lanes;
}
