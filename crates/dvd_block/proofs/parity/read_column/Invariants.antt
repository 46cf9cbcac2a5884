-- What each iteration of the loop in `read_column` keeps.
use Rattle.std.proofs.Common.{◌≡◌, ℕ, ◌<◌, get_or}
use Rattle.coding.specs.Product.{place}
use Rattle.dvd_block.proofs.parity.read_column.Given as goal

abbrev pub invariant-loop-i : goal.invariant-loop-i
invariant-loop-i l = (i : ℕ) → i < l.i → get_or l.top i 0 ≡ place l.rows i l.j
