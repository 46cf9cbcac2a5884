-- What each iteration of the loop in `columns_parity` keeps.
use Rattle.std.proofs.Common.{◌≡◌, ℕ, ◌+◌, ◌*◌, ◌<◌, ◌++◌, length, take}
use Rattle.coding.specs.Words.{IsCodeword}
use Rattle.dvd_block.specs.Buffers.{lines_rows}
use Rattle.coding.specs.Product.{line, column}
use Rattle.dvd_block.proofs.parity.columns_parity.Given as goal

-- the cells of the groups that are done have their parity
abbrev pub invariant-loop-group : goal.invariant-loop-group
invariant-loop-group l = record {
  size : length l.cells ≡ length l.initial.cells;
  set : (k : ℕ) → k < 32 * l.group → k < length l.cells → IsCodeword 208 16 (take 192 (column (lines_rows l.lines) (l.start + k)) ++ line l.cells k);
}
