-- What each iteration of the loop in `put_tile` keeps.
use Rattle.std.proofs.Common.{◌≡◌, ℕ, ◌+◌, ◌<◌, ◌≤◌, length}
use Rattle.coding.specs.Rows.{line}
use Rattle.rs_lanes.proofs.transposing.put_tile.Given as goal

-- k vectors are set, and all others are as they were
abbrev pub invariant-loop-k : goal.invariant-loop-k
invariant-loop-k l = record {
  size : length l.transposed ≡ 182;
  set : (i : ℕ) → i < l.k → line l.transposed (l.at + i) ≡ line l.tile i;
  below : (i : ℕ) → i < l.at → line l.transposed i ≡ line l.initial.transposed i;
  above : (i : ℕ) → l.at + l.k ≤ i → line l.transposed i ≡ line l.initial.transposed i;
}
