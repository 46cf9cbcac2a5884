-- Ours: what the functions of one row and one column change, and how far a row step or a column step has come.
use Rattle.std.specs.Prelude.{◌≡◌, ◌≢◌, ℕ, ◌<◌, ◌≤◌, Bool, false, List, if◌then◌else◌, is_none, is_some, length, replicate, slice_index, slice_index_or, unwrap_or}
use Rattle.coding.specs.Product.{column, line, place}
use Rattle.dvd_capture.specs.Answers.{marks_line}
use Rattle.dvd_deep.specs.Rounds.{State, column_near, mark_in, row_near}

-- each row has 182 bytes
abbrev pub AreWide : List (List ℕ) → Type 0
AreWide rows = (i : ℕ) → i < 208 → length (line rows i) ≡ 182

-- column j has become these bytes, and each other byte stays
pub record IsColumnPut (j : ℕ) (word : List ℕ) (old new : List (List ℕ)) : Type 0 where
  pub here : (i : ℕ) → i < 208 → place new i j ≡ slice_index word i
  pub others : (i k : ℕ) → i < 208 → k < 182 → k ≢ j → place new i k ≡ place old i k

-- a row that isn't listed as marked has no marks
abbrev pub MarksListed : List (List Bool) → List Bool → Type 0
MarksListed marks marked = (i : ℕ) → i < 208 → slice_index_or marked i false ≡ false → marks_line marks i ≡ replicate 182 false

-- the mark at place j of a row after those of the answered columns were cleared
abbrev pub mark_left : List Bool → List Bool → ℕ → Bool
mark_left answered row j = if slice_index_or answered j false then false else slice_index_or row j false

-- the answered columns have no marks, and each other mark stays
abbrev pub AreMarksTaken : List Bool → List (List Bool) → List (List Bool) → Type 0
AreMarksTaken answered old new = (i j : ℕ) → i < 208 → j < 182 → mark_in new i j ≡ mark_left answered (marks_line old i) j

-- what becomes of row i
abbrev pub row_then : State → ℕ → List ℕ
row_then state i = unwrap_or (row_near state i) (line state.rows i)

-- what becomes of the marks of row i
abbrev pub marks_then : State → ℕ → List Bool
marks_then state i = if is_some (row_near state i) then replicate 182 false else marks_line state.marks i

-- the rows before row i have had their step, and the others are as they were
pub record IsStepped (state : State) (rows : List (List ℕ)) (marks : List (List Bool)) (failed : List Bool) (i : ℕ) : Type 0 where
  pub rows_done : (k : ℕ) → k < i → line rows k ≡ row_then state k
  pub marks_done : (k : ℕ) → k < i → marks_line marks k ≡ marks_then state k
  pub failed_done : (k : ℕ) → k < i → slice_index_or failed k false ≡ is_none (row_near state k)
  pub wide : (k : ℕ) → k < i → length (line rows k) ≡ 182
  pub rows_left : (k : ℕ) → i ≤ k → line rows k ≡ line state.rows k
  pub marks_left : (k : ℕ) → i ≤ k → marks_line marks k ≡ marks_line state.marks k
  pub failed_left : (k : ℕ) → i ≤ k → slice_index_or failed k false ≡ false

-- what becomes of column j
abbrev pub column_then : List Bool → State → ℕ → List ℕ
column_then failed state j = unwrap_or (column_near failed state j) (column state.rows j)

-- the columns before column j have had their step, and the others are as they were
pub record AreStepped (failed : List Bool) (state : State) (rows : List (List ℕ)) (j : ℕ) : Type 0 where
  pub wide : AreWide rows
  pub done : (i k : ℕ) → i < 208 → k < j → place rows i k ≡ slice_index (column_then failed state k) i
  pub left : (i k : ℕ) → i < 208 → j ≤ k → k < 182 → place rows i k ≡ place state.rows i k

-- whether the columns before column j are answered is said
abbrev pub AreTold : List Bool → State → List Bool → ℕ → Type 0
AreTold failed state answered j = (k : ℕ) → k < j → slice_index_or answered k false ≡ is_some (column_near failed state k)
