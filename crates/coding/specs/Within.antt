-- The damage that two-pass decoding can correct: compared with the block that was recorded, twice the bad rows plus the
-- lost rows must be at most 16.
use Rattle.std.specs.Prelude.{ℕ, ◌+◌, ◌≤◌, Bool, List, [], ◌∷◌, nat_lt, nat_le, if◌then◌else◌}
use Rattle.coding.specs.Words.{cost}
use Rattle.coding.specs.Filling.{marked}

-- A row weighs nothing where it is good, which is where its cost is at most 10. It weighs one where it is lost, which
-- is where more than 10 of its places are marked, and two where it is bad.
abbrev pub row_weight : List ℕ → List ℕ → List Bool → ℕ
row_weight word row marks = if nat_le (cost word row marks) 10 then 0 else if nat_lt 10 (marked marks) then 1 else 2

-- twice the bad rows plus the lost rows
unfoldable pub block_weight : List (List ℕ) → List (List ℕ) → List (List Bool) → ℕ
block_weight [] rows marks = 0
block_weight (word ∷ block) [] marks = 0
block_weight (word ∷ block) (row ∷ rows) [] = 0
block_weight (word ∷ block) (row ∷ rows) (mark ∷ marks) = row_weight word row mark + block_weight block rows marks

-- the damage is within the bound: the weight of the block is at most 16
abbrev pub IsWithin : List (List ℕ) → List (List ℕ) → List (List Bool) → Type 0
IsWithin block received marks = block_weight block received marks ≤ 16
