-- What the two passes find, as whole lists.
use Rattle.std.specs.Prelude.{ℕ, ◌+◌, List, [], ◌∷◌, map, unwrap_or}
use Rattle.std.specs.List.{range_with_len}
use Rattle.std.specs.declared.option.Option.{Option}
use Rattle.coding.specs.Distance.{distance}
use Rattle.coding.specs.TwoPass.{column_answer, from_columns}

-- what the second pass answers to the columns
unfoldable pub columns_of : List (Option (List ℕ)) → List (Option (List ℕ))
columns_of answers = map (column_answer answers) (range_with_len 0 182)

-- the block of these columns, where each is answered
unfoldable pub block_found : List (Option (List ℕ)) → List (List ℕ)
block_found answers = from_columns (map (λ column. unwrap_or column []) (columns_of answers))

-- the number of places where two blocks differ, over all rows
unfoldable pub block_differences : List (List ℕ) → List (List ℕ) → ℕ
block_differences (row ∷ rows) (other ∷ others) = distance row other + block_differences rows others
block_differences rows others = 0
