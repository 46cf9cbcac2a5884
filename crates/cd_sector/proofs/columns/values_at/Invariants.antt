-- What each iteration of the loop in `values_at` keeps.
use Rattle.std.proofs.Common.{ℕ, ◌+◌, ◌<◌, take}
use Rattle.coding.specs.Field.{alpha}
use Rattle.coding.specs.Words.{value}
use Rattle.coding.specs.Rows.{place, column}
use Rattle.rs_lanes.specs.Inner.Lanes.{HasLanes}
use Rattle.cd_sector.proofs.columns.values_at.Given as goal

-- the values of the rows that were read, which are bytes
abbrev pub invariant-loop-m : goal.invariant-loop-m
invariant-loop-m g l = record {
  bytes : (i j : ℕ) → i < l.m → j < 32 → place l.rows i (l.at + j) < 256;
  sums : HasLanes l.sum (λ j. value (take l.m (column l.rows (l.at + j))) 1);
  values : HasLanes l.value (λ j. value (take l.m (column l.rows (l.at + j))) alpha);
}
