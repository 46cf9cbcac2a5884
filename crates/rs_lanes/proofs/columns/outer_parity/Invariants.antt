-- What each iteration of the loop in `outer_parity` keeps.
use Rattle.std.proofs.Common.{◌≡◌, ℕ, ◌*◌, ◌<◌, ◌++◌, length}
use Rattle.coding.specs.Words.{IsEncoded}
use Rattle.coding.specs.Rows.{column}
use Rattle.rs_lanes.proofs.columns.outer_parity.Given as goal

-- the columns of the groups that are done have their parity
abbrev pub invariant-loop-group : goal.invariant-loop-group
invariant-loop-group l = record {
  size : length l.parity ≡ 16;
  encoded : (j : ℕ) → j < 32 * l.group → IsEncoded 208 16 (column l.rows j) (column l.rows j ++ column l.parity j);
}
