-- What each iteration of the loop in `put_end` keeps.
use Rattle.std.proofs.Common.{◌≡◌, ℕ, ◌+◌, ◌<◌, length, get_or}
use Rattle.coding.specs.Rows.{place}
use Rattle.rs_lanes.proofs.rows.put_end.Given as goal

-- the first 172 bytes are as they were, and k bytes after them are set
abbrev pub invariant-loop-k : goal.invariant-loop-k
invariant-loop-k l = record {
  size : length l.row ≡ 182;
  prefix : (i : ℕ) → i < 172 → get_or l.row i 0 ≡ get_or l.initial.row i 0;
  set : (i : ℕ) → i < l.k → get_or l.row (172 + i) 0 ≡ place l.parity i l.n;
}
