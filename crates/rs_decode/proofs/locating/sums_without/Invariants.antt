-- What each iteration of the loop in `sums_without` keeps.
use Rattle.std.proofs.Common.{◌≡◌, ℕ, ◌+◌, List, length, take}
use Rattle.arrayvec.specs.ArrayVec.{array_vec_len}
use Rattle.rs_decode.specs.Inner.Locator.{at_points, distances}
use Rattle.rs_decode.specs.Inner.Sums.{AreSums}
use Rattle.rs_decode.proofs.locating.sums_without.Given as goal

-- the sums with the points so far taken out, of which each left one less
abbrev pub invariant-loop-point : goal.invariant-loop-point
invariant-loop-point l = record {
  len : array_vec_len l.left + l.point-index ≡ length l.sums;
  are : (places bytes : List ℕ) → AreSums places bytes l.sums → AreSums places (at_points (distances (take l.point-index l.points)) bytes places) l.left.items;
}
