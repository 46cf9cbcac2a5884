-- What each iteration of the loop in `put_vectors` keeps.
use Rattle.std.proofs.Common.{◌≡◌, ℕ, ◌+◌, ◌<◌, ◌≤◌, length}
use Rattle.coding.specs.Rows.{line, place}
use Rattle.rs_lanes.proofs.columns.put_vectors.Given as goal

-- the rows above k are set at the 32 places, and no other place is changed
abbrev pub invariant-loop-k : goal.invariant-loop-k
invariant-loop-k l = record {
  size : length l.parity ≡ 16;
  sizes : (i : ℕ) → i < l.k → length (line l.parity i) ≡ 182;
  set : (i j : ℕ) → i < l.k → j < 32 → place l.parity i (l.at + j) ≡ place l.vectors i j;
  below : (i j : ℕ) → j < l.at → place l.parity i j ≡ place l.initial.parity i j;
  above : (i j : ℕ) → l.at + 32 ≤ j → place l.parity i j ≡ place l.initial.parity i j;
}
