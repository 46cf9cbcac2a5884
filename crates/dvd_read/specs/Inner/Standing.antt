-- Ours: rows that are answered by codewords, and columns that are copied of these answers or have their bytes.
use Rattle.std.specs.Prelude.{◌≡◌, ℕ, ◌+◌, ◌-◌, ◌<◌, ◌≤◌, Bool, true, List, [], is_some, length, map, slice_index, slice_index_or, Some}
use Rattle.coding.specs.Field.{alpha, power}
use Rattle.coding.specs.Product.{column, line, place}
use Rattle.coding.specs.TwoPass.{column_answer}
use Rattle.coding.specs.Words.{IsCodeword, value}
use Rattle.dvd_capture.specs.Answers.{IsAnswer, marks_line}
use Rattle.dvd_capture.specs.declared.parts.AnswerRow.{AnswerRow}
use Rattle.dvd_capture.specs.declared.parts.ColumnAnswer.{ColumnAnswer}
use Rattle.dvd_read.specs.Parts.{answer_word, answer_bytes}

-- each row that is answered is answered by a codeword
abbrev pub AreCodewords : List AnswerRow → Type 0
AreCodewords answers =
    (i : ℕ) (default : AnswerRow) (word : List ℕ) → i < 208 → answer_word (slice_index_or answers i default) ≡ Some word → IsCodeword 182 10 word

-- these have the bytes of the columns of these answers from `start` on
pub record AreOwnFrom (answers : List AnswerRow) (start : ℕ) (piece : List ColumnAnswer) : Type 0 where
  pub are : (k : ℕ) (default : ColumnAnswer) → k < length piece
      → (slice_index_or piece k default).bytes ≡ column (answer_bytes answers) (start + k)

-- a block has the answers of all rows that didn't fail
abbrev pub AreRowsKept : List AnswerRow → List (List ℕ) → Type 0
AreRowsKept answers block =
    (i : ℕ) (default : AnswerRow) → i < 208 → is_some (slice_index_or answers i default).fix ≡ true → line block i ≡ (slice_index_or answers i default).bytes

-- of these answers the columns from `start` to the one before `end` are what the second pass answers to them
abbrev pub AreCompleted : List AnswerRow → ℕ → ℕ → Type 0
AreCompleted answers start end =
    (j : ℕ) → start ≤ j → j < end → column_answer (map answer_word answers) j ≡ Some (column (answer_bytes answers) j)

-- of each column of a piece that begins at column `start` the bytes of the first n rows' answers are copied
abbrev pub AreCopied : List AnswerRow → ℕ → List ColumnAnswer → ℕ → Type 0
AreCopied answers start piece n =
    (j i : ℕ) (default : ColumnAnswer) → j < length piece → i < n
    → slice_index (slice_index_or piece j default).bytes i ≡ slice_index (slice_index_or (answer_bytes answers) i []) (start + j)

-- at row i the columns from `at` to the one before `end` have the bytes of these answers
abbrev pub IsRowKept : List AnswerRow → List ColumnAnswer → ℕ → ℕ → ℕ → Type 0
IsRowKept answers columns i at end =
    (j : ℕ) (default : ColumnAnswer) → at ≤ j → j < end
    → slice_index (slice_index_or columns j default).bytes i ≡ slice_index (slice_index_or (answer_bytes answers) i []) j

-- these are the answers of the first pass to the rows before row n
abbrev pub AreAnswersBefore : List (List ℕ) → List (List Bool) → List AnswerRow → ℕ → Type 0
AreAnswersBefore received marks answers n = (i : ℕ) (default : AnswerRow) → i < n → IsAnswer (line received i) (marks_line marks i) (slice_index_or answers i default)

-- This is the answer to a row if that is a codeword: its bytes as they were received.
pub record IsAsReceived (row : List ℕ) (marks : List Bool) (answer : AnswerRow) : Type 0 where
  pub bytes : answer.bytes ≡ row
  pub width : length row ≡ 182
  pub answered : is_some answer.fix ≡ true
  pub right : ((k : ℕ) → k < 10 → value row (power alpha k) ≡ 0) → IsAnswer row marks answer

-- these are so of the rows from `start` on
pub record AreAsReceivedFrom (received : List (List ℕ)) (marks : List (List Bool)) (start : ℕ) (piece : List AnswerRow) : Type 0 where
  pub are : (k : ℕ) (default : AnswerRow) → k < length piece
      → IsAsReceived (line received (start + k)) (marks_line marks (start + k)) (slice_index_or piece k default)

-- and these of the rows before row n
abbrev pub AreAsReceivedBefore : List (List ℕ) → List (List Bool) → List AnswerRow → ℕ → Type 0
AreAsReceivedBefore received marks answers n = (i : ℕ) (default : AnswerRow) → i < n → IsAsReceived (line received i) (marks_line marks i) (slice_index_or answers i default)

-- the columns have the bytes of the first n of these rows
abbrev pub AreColumnsOf : List (List ℕ) → List ColumnAnswer → ℕ → Type 0
AreColumnsOf rows columns n = (j i : ℕ) (default : ColumnAnswer) → j < 182 → i < n → slice_index (slice_index_or columns j default).bytes i ≡ place rows i j

-- the first of the 32 rows whose values are found for those from `start` on: the last 32 begin at row 176
abbrev pub top_of : ℕ → ℕ
top_of start = start - (start - 176)
