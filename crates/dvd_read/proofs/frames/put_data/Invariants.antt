-- What each iteration of the loop in `put_data` keeps.
use Rattle.std.proofs.Common.{◌≡◌, ℕ, ◌+◌, ◌*◌, ◌<◌, length, get_or}
use Rattle.dvd_read.proofs.frames.put_data.Given as goal

-- the bytes before the row are as they were, and those of the pieces so far are copied
abbrev pub invariant-loop-piece : goal.invariant-loop-piece
invariant-loop-piece l = record {
  size : length l.frame ≡ 2064;
  before : (k : ℕ) → k < l.at → get_or l.frame k 0 ≡ get_or l.initial.frame k 0;
  copied : (j : ℕ) → j < 32 * l.piece → get_or l.frame (l.at + j) 0 ≡ get_or l.row j 0;
}
