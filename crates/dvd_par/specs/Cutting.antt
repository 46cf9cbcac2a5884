-- How a pass is cut into pieces for its workers (ours).
use Rattle.std.specs.Prelude.{ℕ, ◌*◌, ◌-◌, ◌<◌, ◌≤◌, List, length}
use Rattle.std.specs.Fork.{AllInChunks}
use denote.Param.Members.{Shared}
use denote.Ref.{MutBor}

-- The least size of a piece with which so many workers do all: with one less some would be left.
pub record IsPieceSize (total workers size : ℕ) : Type 0 where
  pub serves : total ≤ workers * size
  pub least : workers * (size - 1) < total

-- Each item was changed by the work on its piece, and pieces have the least size that serves.
pub record IsDoneInPieces {F X : Type 0} (g : Shared F (ℕ × (MutBor (List X) × Unit {0})) (Unit {0} × (MutBor (List X) × Unit {0}))) (work : F) (workers : ℕ) (old new : List X) : Type 0 where
  pub size : ℕ
  pub is_size : IsPieceSize (length old) workers size
  pub pieces : AllInChunks g work size old new
