-- Ours: iterated reading. A state is the rows of a block with a mark for each place. Each round replaces rows and
-- columns by the codewords near them, and clears the marks of these.
use Rattle.std.specs.Prelude.{ℕ, zero, suc, ◌-◌, Bool, false, ◌&&◌, List, if◌then◌else◌, map, find, is_none, is_some, unwrap_or, replicate, slice_index_or}
use Rattle.std.specs.List.{list_all, range_with_len}
use Rattle.std.specs.Option.{option_map, option_or}
use Rattle.std.specs.declared.option.Option.{Option}
use Rattle.coding.specs.Nearest.{near_of, vanishes_at_all}
use Rattle.coding.specs.Product.{column, line}
use Rattle.dvd_capture.specs.Answers.{marks_line, row_answer}
use Rattle.coding.specs.TwoPass.{from_columns}

-- the rows of a block, and the marks of each
pub record State : Type 0 where
  pub rows : List (List ℕ)
  pub marks : List (List Bool)

-- the state of these rows and marks
abbrev pub state_in : List (List ℕ) → List (List Bool) → State
state_in rows marks = record { rows = rows; marks = marks }

-- the mark in row i at place j
abbrev pub mark_in : List (List Bool) → ℕ → ℕ → Bool
mark_in marks i j = slice_index_or (marks_line marks i) j false

-- the codeword near row i
abbrev pub row_near : State → ℕ → Option (List ℕ)
row_near state i = row_answer state.rows state.marks i

-- The row step: each row that has a codeword near it becomes that, and loses its marks. The others stay.
unfoldable pub row_step : State → State
row_step state = record {
  rows = map (λ i. unwrap_or (row_near state i) (line state.rows i)) (range_with_len 0 208);
  marks = map (λ i. if is_some (row_near state i) then replicate 182 false else marks_line state.marks i) (range_with_len 0 208);
}

-- the rows that fail in the row step
unfoldable pub failed_marks : State → List Bool
failed_marks state = map (λ i. is_none (row_near state i)) (range_with_len 0 208)

-- the marks of column j
unfoldable pub column_marks : List (List Bool) → ℕ → List Bool
column_marks marks j = map (λ i. mark_in marks i j) (range_with_len 0 208)

-- the codeword near column j: first with the failed rows as its marks, or else with its own
abbrev pub column_near : List Bool → State → ℕ → Option (List ℕ)
column_near failed state j =
    option_or (near_of 208 16 (column state.rows j) failed) (near_of 208 16 (column state.rows j) (column_marks state.marks j))

-- whether every column has such a codeword
unfoldable pub are_answered : List Bool → State → Bool
are_answered failed state = list_all (λ j. is_some (column_near failed state j)) (range_with_len 0 182)

-- The column step: each column that has a codeword near it becomes that, and loses its marks. The others stay.
unfoldable pub column_step : List Bool → State → State
column_step failed state = record {
  rows = from_columns (map (λ j. unwrap_or (column_near failed state j) (column state.rows j)) (range_with_len 0 182));
  marks = map (λ i. map (λ j. if is_some (column_near failed state j) then false else mark_in state.marks i j) (range_with_len 0 182)) (range_with_len 0 208);
}

-- a round: the row step, and then the column step with the failed rows of this round
unfoldable pub round : State → State
round state = column_step (failed_marks state) (row_step state)

-- A round finishes where all columns are answered and all rows are then codewords.
unfoldable pub finishes : State → Bool
finishes state = are_answered (failed_marks state) (row_step state) && list_all (vanishes_at_all 10) (round state).rows

-- the state that n rounds leave
unfoldable pub after_rounds : ℕ → State → State
after_rounds zero state = state
after_rounds (suc n) state = round (after_rounds n state)

-- the number of the first of four rounds that finishes, if one does
unfoldable pub first_round : State → Option ℕ
first_round state = find (λ t. finishes (after_rounds (t - 1) state)) (range_with_len 1 4)

-- the number of the round that gives back a received block, if one does
abbrev pub deep_round : List (List ℕ) → List (List Bool) → Option ℕ
deep_round received marks = first_round (state_in received marks)

-- the block that it gives back: the rows that this round leaves
abbrev pub deep_block : List (List ℕ) → List (List Bool) → Option (List (List ℕ))
deep_block received marks = option_map (λ t. (after_rounds t (state_in received marks)).rows) (deep_round received marks)
