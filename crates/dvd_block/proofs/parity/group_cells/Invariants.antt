-- What each iteration of the loop in `group_cells` keeps.
use Rattle.std.proofs.Common.{◌≡◌, ℕ, ◌+◌, ◌-◌, ◌<◌}
use Rattle.coding.specs.Product.{line, column}
use Rattle.dvd_block.proofs.parity.group_cells.Given as goal

-- the cells before have their parity
abbrev pub invariant-loop-k : goal.invariant-loop-k
invariant-loop-k l = (m : ℕ) → m < l.k → line l.cells m ≡ column l.parity (l.start - l.left + m)
