-- What each iteration of the loop in `bytes_of` keeps.
use Rattle.std.proofs.Common.{◌≡◌, ℕ, ◌<◌, length}
use Rattle.coding.specs.Product.{place}
use Rattle.dvd_read.proofs.lanes.bytes_of.Given as goal

-- the lanes of the vectors before are copied
abbrev pub invariant-loop-k : goal.invariant-loop-k
invariant-loop-k g l = record {
  size : length l.bytes ≡ g.row.R;
  copied : (k n : ℕ) → k < l.k → n < 32 → place l.bytes k n ≡ place l.vectors k n;
}
