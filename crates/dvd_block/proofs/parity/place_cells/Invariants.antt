-- What each iteration of the loop in `place_cells` keeps.
use Rattle.std.proofs.Common.{◌≡◌, ℕ, ◌<◌, length}
use Rattle.coding.specs.Product.{line, place}
use Rattle.dvd_block.proofs.parity.place_cells.Given as goal

abbrev pub invariant-loop-t : goal.invariant-loop-t
invariant-loop-t l = record {
  bytes : (t : ℕ) → t < l.t → (j : ℕ) → j < 182 → place l.rows t j ≡ place l.cells j t;
  sizes : (t : ℕ) → t < l.t → length (line l.rows t) ≡ 182;
}
