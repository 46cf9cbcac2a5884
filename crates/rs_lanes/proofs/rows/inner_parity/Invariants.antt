-- What each iteration of the loop in `inner_parity` keeps.
use Rattle.std.proofs.Common.{◌≡◌, ℕ, ◌+◌, ◌<◌, ◌≤◌, ◌++◌, length, take}
use Rattle.coding.specs.Rows.{line, column}
use Rattle.rs_lanes.proofs.rows.inner_parity.Given as goal

-- n rows have their parity, and all others are as they were
abbrev pub invariant-loop-n : goal.invariant-loop-n
invariant-loop-n l = record {
  size : length l.rows ≡ length l.initial.rows;
  set : (m : ℕ) → m < l.n → line l.rows (l.top + m) ≡ take 172 (line l.initial.rows (l.top + m)) ++ column l.parity m;
  below : (i : ℕ) → i < l.top → line l.rows i ≡ line l.initial.rows i;
  above : (i : ℕ) → l.top + l.n ≤ i → line l.rows i ≡ line l.initial.rows i;
}
