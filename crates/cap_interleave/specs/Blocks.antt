-- Ours: blocks of several captures in turn, as `dvdecc merge` reads them. A capture is known by its number, from 0.
use Rattle.std.specs.Prelude.{ℕ, zero, suc, ◌*◌, Bool, true, false, List, [], ◌∷◌, ◌++◌, length, take, drop, replicate}

-- how many bytes a block has, whether blocks are filled, and how many captures there are
pub record Task : Type 0 where
  pub size : ℕ
  pub fill : Bool
  pub count : ℕ

-- the bytes of each capture
abbrev pub CaptureBytes : Type 0
CaptureBytes = ℕ → List ℕ

-- the bytes of block k of a capture, as far as it has them
abbrev pub capture_block : ℕ → ℕ → List ℕ → List ℕ
capture_block size k capture = take size (drop (size * k) capture)

-- a recorded row of the marked form that is marked whole: 182 zeros, and a mark for each
abbrev pub lost_row : List ℕ
lost_row = replicate 182 0 ++ (replicate 22 255 ++ 252 ∷ [])

-- a number of lost rows
unfoldable pub lost_rows : ℕ → List ℕ
lost_rows zero = []
lost_rows (suc n) = lost_rows n ++ lost_row

-- a block that is marked whole
abbrev pub lost_block : List ℕ
lost_block = lost_rows 208

-- What is written for a block of which these bytes came. Where blocks are filled, the missing bytes are as in a block
-- that is marked whole.
abbrev pub block_written : Bool → List ℕ → List ℕ
block_written true own = own ++ drop (length own) lost_block
block_written false own = own

-- block k of each of the first captures, one after the other
unfoldable pub unit_bytes : Task → CaptureBytes → ℕ → ℕ → List ℕ
unit_bytes task captures k zero = []
unit_bytes task captures k (suc c) = unit_bytes task captures k c ++ block_written task.fill (capture_block task.size k (captures c))

-- block 0 of all captures, then block 1 of all, and so on, for that many blocks
unfoldable pub units_of : Task → CaptureBytes → ℕ → List ℕ
units_of task captures zero = []
units_of task captures (suc k) = units_of task captures k ++ unit_bytes task captures k task.count
