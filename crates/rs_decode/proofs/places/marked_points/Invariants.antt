-- What each iteration of the loop in `marked_points` keeps.
use Rattle.std.proofs.Common.{◌≡◌, length, take}
use Rattle.rs_code.specs.Inner.PowerSums.{points_of}
use Rattle.rs_decode.specs.Inner.Places.{picked}
use Rattle.rs_decode.proofs.places.marked_points.Given as goal

-- the points of the places so far
abbrev pub invariant-loop-place : goal.invariant-loop-place
invariant-loop-place l = l.points.items ≡ take l.place-index (picked l.marks (points_of (length l.marks)))
