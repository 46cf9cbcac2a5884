-- What each iteration of the loop in `faults` keeps.
use Rattle.std.proofs.Common.{◌≡◌, ◌↔◌, ℕ, ◌*◌, ◌<◌, length, get_or}
use Rattle.coding.specs.Words.{IsCodeword}
use Rattle.coding.specs.Rows.{column}
use Rattle.cd_sector.proofs.columns.faults.Given as goal

-- the bytes of the groups that are done say where codewords are
abbrev pub invariant-loop-group : goal.invariant-loop-group
invariant-loop-group g l = record {
  said : (j : ℕ) → j < 32 * l.group → (get_or l.faults j 0 ≡ 0) ↔ IsCodeword (length l.rows) 2 (column l.rows j);
}
