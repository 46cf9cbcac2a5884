-- What each iteration of the loop in `copy_row` keeps.
use Rattle.std.proofs.Common.{◌≡◌, ℕ, ◌*◌, ◌<◌, length, get_or}
use Rattle.rs_lanes.proofs.lanes.copy_row.Given as goal

-- the bytes of the pieces before are copied
abbrev pub invariant-loop-piece : goal.invariant-loop-piece
invariant-loop-piece l = record {
  size : length l.to ≡ 182;
  copied : (j : ℕ) → j < 32 * l.piece → get_or l.to j 0 ≡ get_or l.from j 0;
}
