-- What each iteration of the loop in `tile_changed` keeps.
use Rattle.std.proofs.Common.{◌≡◌, ◌↔◌, ℕ, ◌+◌, ◌<◌, length, get_or}
use Rattle.coding.specs.Product.{place}
use Rattle.dvd_capture.specs.declared.parts.ColumnAnswer.{ColumnAnswer}
use Rattle.dvd_read.proofs.kept.tile_changed.Given as goal

-- the columns before are compared
abbrev pub invariant-loop-j : goal.invariant-loop-j
invariant-loop-j l = record {
  size : length l.differences ≡ 16;
  set : (k n : ℕ) (d : ColumnAnswer) → k < l.j → n < 32
      → (place l.differences k n ≡ 0) ↔ (get_or (get_or l.columns (l.at + k) d).bytes (l.top + n) 0 ≡ place l.transposed k n);
}
