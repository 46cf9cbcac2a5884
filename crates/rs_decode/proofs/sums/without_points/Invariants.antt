-- What each iteration of the loop in `without_points` keeps.
use Rattle.std.proofs.Common.{◌≡◌, ℕ, ◌-◌, List, length, take}
use Rattle.rs_decode.specs.Inner.Locator.{at_points, distances}
use Rattle.rs_decode.specs.Inner.Sums.{AreSums}
use Rattle.rs_decode.proofs.sums.without_points.Given as goal

-- the first lanes hold the sums with the points so far taken out, of which each left one less
abbrev pub invariant-loop-point : goal.invariant-loop-point
invariant-loop-point l = record {
  size : length l.left ≡ 16;
  are : (places bytes : List ℕ) → AreSums places bytes l.sums → AreSums places (at_points (distances (take l.point-index l.points)) bytes places) (take (length l.sums - l.point-index) l.left);
}
