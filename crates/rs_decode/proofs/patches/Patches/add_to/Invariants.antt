-- What each iteration of the loop in `add_to` keeps.
use Rattle.std.proofs.Common.{◌≡◌, Bool, List, length, take}
use Rattle.coding.specs.Filling.{marked}
use Rattle.coding.specs.Rows.{column}
use Rattle.rs_decode.specs.Patches.{patched, ArePlaces}
use Rattle.rs_decode.proofs.patches.Patches.add_to.Given as goal

-- the first bytes are added, where the places are the marked ones
abbrev pub invariant-loop-i : goal.invariant-loop-i
invariant-loop-i l = record {
  size : length l.word ≡ length l.initial.word;
  patched : (marks : List Bool) → length marks ≡ length l.initial.word → marked marks ≡ length l.places → ArePlaces marks (marked marks) l.places
      → l.word ≡ patched l.initial.word marks (take l.i (column l.self.bytes l.n));
}
