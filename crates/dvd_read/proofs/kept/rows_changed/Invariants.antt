-- What each iteration of the loop in `rows_changed` keeps.
use Rattle.std.proofs.Common.{◌≡◌, ◌↔◌, ℕ, ◌+◌, ◌*◌, ◌<◌, length, min}
use Rattle.coding.specs.Product.{place}
use Rattle.dvd_read.specs.Inner.Standing.{IsRowKept}
use Rattle.dvd_read.proofs.kept.rows_changed.Given as goal

-- the tiles before are compared
abbrev pub invariant-loop-tile : goal.invariant-loop-tile
invariant-loop-tile l = record {
  size : length l.tiles ≡ 12;
  set : (t n : ℕ) → t < l.tile → n < 32 → (place l.tiles t n ≡ 0) ↔ IsRowKept l.answers l.columns (l.top + n) (min (16 * t) 166) (min (16 * t) 166 + 16);
}
