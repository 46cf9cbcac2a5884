-- What each iteration of the loop in `put_cell` keeps.
use Rattle.std.proofs.Common.{◌≡◌, ℕ, ◌<◌, length, get_or}
use Rattle.coding.specs.Product.{place}
use Rattle.dvd_block.proofs.parity.put_cell.Given as goal

-- t bytes are set
abbrev pub invariant-loop-t : goal.invariant-loop-t
invariant-loop-t l = record {
  size : length l.cell ≡ 16;
  set : (i : ℕ) → i < l.t → get_or l.cell i 0 ≡ place l.parity i l.n;
}
