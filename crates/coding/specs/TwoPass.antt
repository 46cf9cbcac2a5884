-- Two-pass decoding of a received block: first its rows, then the columns of the rows' answers. A received block is a
-- list of 208 rows of 182 bytes; its marks are the list of its rows' marks.
use Rattle.std.specs.Prelude.{ℕ, ◌<◌, ◌≤◌, Bool, List, [], ◌∷◌, map, slice_index, Some, None, is_none}
use Rattle.std.specs.List.{range_with_len}
use Rattle.std.specs.declared.option.Option.{Option}
use Rattle.coding.specs.Words.{cost}
use Rattle.coding.specs.Nearest.{near_of}
use Rattle.coding.specs.Product.{IsProduct, column}

-- what the first pass answers to each row: the codeword near it, or none
unfoldable pub answers_of : List (List ℕ) → List (List Bool) → List (Option (List ℕ))
answers_of [] marks = []
answers_of (row ∷ rows) [] = []
answers_of (row ∷ rows) (mark ∷ marks) = near_of 182 10 row mark ∷ answers_of rows marks

-- the rows without an answer, which are marks for the second pass
abbrev pub failed_of : List (Option (List ℕ)) → List Bool
failed_of answers = map is_none answers

-- an answer's byte at place j, or 0 for a failed row, which has none
abbrev pub byte_or_zero : ℕ → Option (List ℕ) → ℕ
byte_or_zero j None = 0
byte_or_zero j (Some word) = slice_index word j

-- column j of the answers
unfoldable pub answer_column : List (Option (List ℕ)) → ℕ → List ℕ
answer_column answers j = map (byte_or_zero j) answers

-- A block that agrees with the answers: a product codeword each of whose columns costs at most 16. The cost is two for
-- each answer that differs there, and one for each failed row.
pub record AgreesWith (answers : List (Option (List ℕ))) (block : List (List ℕ)) : Type 0 where
  pub product : IsProduct block
  pub columns : (j : ℕ) → j < 182 → cost (column block j) (answer_column answers j) (failed_of answers) ≤ 16

-- the block that two-pass decoding determines; there is at most one
abbrev pub IsTwoPass : List (List ℕ) → List (List Bool) → List (List ℕ) → Type 0
IsTwoPass received marks block = AgreesWith (answers_of received marks) block

-- what the second pass answers to column j
abbrev pub column_answer : List (Option (List ℕ)) → ℕ → Option (List ℕ)
column_answer answers j = near_of 208 16 (answer_column answers j) (failed_of answers)

-- the rows of the block that has these columns
unfoldable pub from_columns : List (List ℕ) → List (List ℕ)
from_columns columns = map (λ i. map (λ word. slice_index word i) columns) (range_with_len 0 208)
