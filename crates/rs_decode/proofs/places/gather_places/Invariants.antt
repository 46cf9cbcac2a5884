-- What each iteration of the loop in `gather_places` keeps.
use Rattle.std.proofs.Common.{◌≡◌, ◌≤◌, length, take}
use Rattle.coding.specs.Filling.{marked}
use Rattle.rs_decode.specs.Patches.{ArePlaces}
use Rattle.rs_decode.proofs.places.gather_places.Given as goal

-- the marked places so far
abbrev pub invariant-loop-place : goal.invariant-loop-place
invariant-loop-place l = record {
  size : length l.places ≡ 256;
  few : l.count ≤ l.place;
  count : l.count ≡ marked (take l.place l.marks);
  gathered : ArePlaces l.marks l.count l.places;
}
