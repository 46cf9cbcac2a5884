-- What each iteration of the loop in `count_marks` keeps.
use Rattle.std.proofs.Common.{◌≡◌, ◌≤◌, take}
use Rattle.coding.specs.Filling.{marked}
use Rattle.rs_decode.proofs.places.count_marks.Given as goal

-- the marks so far
abbrev pub invariant-loop-place : goal.invariant-loop-place
invariant-loop-place l = record {
  few : l.count ≤ l.place;
  so_far : l.count ≡ marked (take l.place l.marks);
}
