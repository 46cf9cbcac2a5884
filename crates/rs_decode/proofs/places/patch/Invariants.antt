-- What each iteration of the loop in `patch` keeps.
use Rattle.std.proofs.Common.{◌≡◌, All, Bool, List, length, take}
use Rattle.coding.specs.Words.{IsByte}
use Rattle.rs_code.specs.Inner.PowerSums.{points_of}
use Rattle.rs_decode.specs.Patches.{patched}
use Rattle.rs_decode.specs.Inner.Places.{picked}
use Rattle.rs_decode.proofs.places.patch.Given as goal

-- the first bytes are added, where the points are those of marked places
abbrev pub invariant-loop-k : goal.invariant-loop-k
invariant-loop-k l = record {
  size : length l.word ≡ length l.initial.word;
  bytes : All IsByte l.word;
  patched : (marks : List Bool) → length marks ≡ length l.initial.word → l.points ≡ picked marks (points_of (length marks)) → l.word ≡ patched l.initial.word marks (take l.k l.bytes);
}
