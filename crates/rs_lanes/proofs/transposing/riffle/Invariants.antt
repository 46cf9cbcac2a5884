-- What each iteration of the loop in `riffle` keeps.
use Rattle.std.proofs.Common.{◌≡◌, ℕ, ◌+◌, ◌*◌, ◌/◌, ◌%◌, ◌<◌, length}
use Rattle.coding.specs.Rows.{line, place}
use Rattle.rs_lanes.proofs.transposing.riffle.Given as goal

-- the first k fours are set
abbrev pub invariant-loop-k : goal.invariant-loop-k
invariant-loop-k l = record {
  size : length l.riffled ≡ 16;
  lanes : (i : ℕ) → i < 4 * l.k → length (line l.riffled i) ≡ 32;
  set : (i n : ℕ) → i < 4 * l.k → n < 32
      → place l.riffled i n ≡ place l.tile (4 * (n % 4) + i / 4) (16 * (n / 16) + (4 * (i % 4) + n % 16 / 4));
}
