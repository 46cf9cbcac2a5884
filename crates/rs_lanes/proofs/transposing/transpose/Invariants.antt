-- What each iteration of the loop in `transpose` keeps.
use Rattle.std.proofs.Common.{◌≡◌, ℕ, ◌+◌, ◌*◌, ◌<◌, length, map}
use Rattle.coding.specs.Rows.{line, place}
use Rattle.rs_lanes.proofs.transposing.transpose.Given as goal

-- the vectors of the tiles that are done are set
abbrev pub invariant-loop-tile : goal.invariant-loop-tile
invariant-loop-tile g l = record {
  size : length l.transposed ≡ 182;
  lanes : (k : ℕ) → k < 16 * l.tile → length (line l.transposed k) ≡ 32;
  set : (k n : ℕ) → k < 16 * l.tile → n < 32 → place l.transposed k n ≡ place (map g.T.Row.word l.rows) (l.top + n) k;
}
