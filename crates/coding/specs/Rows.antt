-- Ours: lists of rows, by row and by column. Vectors are such rows too, and their lanes are the places.
use Rattle.std.specs.Prelude.{ℕ, List, [], map, slice_index, slice_index_or}

-- row i
abbrev pub line : List (List ℕ) → ℕ → List ℕ
line rows i = slice_index_or rows i []

-- the byte in row i at place j
abbrev pub place : List (List ℕ) → ℕ → ℕ → ℕ
place rows i j = slice_index (line rows i) j

-- column j, from the top
abbrev pub column : List (List ℕ) → ℕ → List ℕ
column rows j = map (λ row. slice_index row j) rows
