-- What each iteration of the loop in `parity` keeps.
use Rattle.std.proofs.Common.{ℕ, ◌+◌, ◌*◌, ◌<◌, [], ◌∷◌, ◌++◌, length, get_or}
use Rattle.coding.specs.Words.{IsCodeword}
use Rattle.coding.specs.Rows.{column}
use Rattle.cd_sector.proofs.columns.parity.Given as goal

-- the columns of the groups that are done have their parity
abbrev pub invariant-loop-group : goal.invariant-loop-group
invariant-loop-group g l = record {
  set : (j : ℕ) → j < 32 * l.group → IsCodeword (length l.rows + 2) 2 (column l.rows j ++ get_or l.first j 0 ∷ get_or l.second j 0 ∷ []);
}
