-- The order of recording (ECMA-267, 19): a recording frame is the twelve rows of a data frame, then a row of outer
-- parity.
use Rattle.std.specs.Prelude.{ℕ, ◌+◌, ◌-◌, ◌*◌, ◌/◌, ◌%◌, ◌==◌, nat_lt, if◌then◌else◌, List, [], ◌∷◌, ◌++◌}
use Rattle.std.specs.List.{flat_map, range_with_len}
use Rattle.coding.specs.Product.{line}

-- The rows of a block as they are recorded: for each frame f rows 12f to 12f + 11, and then row 192 + f.
unfoldable pub recorded_rows : List ℕ
recorded_rows = flat_map (λ f. range_with_len (12 * f) 12 ++ (192 + f) ∷ []) (range_with_len 0 16)

-- the bytes of the sixteen recording frames of a block
unfoldable pub recording : List (List ℕ) → List ℕ
recording block = flat_map (line block) recorded_rows

-- the row of the block that is recorded row m
abbrev pub row_at : ℕ → ℕ
row_at m = if (m + 1) % 13 == 0 then 191 + (m + 1) / 13 else m - m / 13

-- the recorded row of row i
abbrev pub record_at : ℕ → ℕ
record_at i = if nat_lt i 192 then i + i / 12 else 13 * (i - 191) - 1
