-- What each iteration of the loop in `read_cells` keeps.
use Rattle.std.proofs.Common.{◌≡◌, ℕ, ◌<◌, length, get_or}
use Rattle.coding.specs.Product.{place}
use Rattle.dvd_block.proofs.parity.read_cells.Given as goal

abbrev pub invariant-loop-j : goal.invariant-loop-j
invariant-loop-j l = record {
  size : length l.row ≡ 182;
  read : (j : ℕ) → j < l.j → get_or l.row j 0 ≡ place l.cells j l.t;
}
