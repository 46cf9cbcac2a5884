-- Ours: what the buffers of a captured block hold between the passes, and what a piece of them holds whose rows or
-- columns begin at one of the block's. All rows, and all columns, are the piece that begins at the first.
use Rattle.std.specs.Prelude.{◌≡◌, ◌+◌, ◌<◌, ℕ, Bool, true, List, length, map, slice_index, slice_index_or, Some, None, is_some, if◌then◌else◌}
use Rattle.std.specs.declared.option.Option.{Option}
use Rattle.rs_decode.specs.declared.errors.Fix.{Fix}
use Rattle.coding.specs.Filling.{AgreeUnmarked}
use Rattle.coding.specs.Product.{column, line, place}
use Rattle.dvd_capture.specs.Answers.{IsAnswer, marks_line}
use Rattle.dvd_capture.specs.declared.parts.AnswerRow.{AnswerRow}
use Rattle.dvd_capture.specs.declared.parts.ColumnAnswer.{ColumnAnswer}
use Rattle.coding.specs.TwoPass.{column_answer, failed_of}

-- a row's answer as a word or none
abbrev pub answer_by : Option Fix → List ℕ → Option (List ℕ)
answer_by None bytes = None
answer_by (Some fix) bytes = Some bytes

-- the word that a row's buffer holds, where it is answered
abbrev pub answer_word : AnswerRow → Option (List ℕ)
answer_word row = answer_by row.fix row.bytes

-- a column's answer
abbrev pub column_word : ColumnAnswer → Option (List ℕ)
column_word column = if column.answered then Some column.bytes else None

-- the bytes of the rows' answers; where no row failed, these are the words of the answers
abbrev pub answer_bytes : List AnswerRow → List (List ℕ)
answer_bytes answers = map (λ (answer : AnswerRow). answer.bytes) answers

-- these are the answers of the first pass to the rows from `start` on
pub record AreAnswersFrom (received : List (List ℕ)) (marks : List (List Bool)) (start : ℕ) (piece : List AnswerRow) : Type 0 where
  pub are : (k : ℕ) (default : AnswerRow) → k < length piece
      → IsAnswer (line received (start + k)) (marks_line marks (start + k)) (slice_index_or piece k default)

-- these are what the second pass answers to the columns of these answers from `start` on
pub record AreColumnsFrom (answers : List (Option (List ℕ))) (start : ℕ) (piece : List ColumnAnswer) : Type 0 where
  pub are : (k : ℕ) (default : ColumnAnswer) → k < length piece
      → column_word (slice_index_or piece k default) ≡ column_answer answers (start + k)

-- these have, in each row that didn't fail, the bytes of the columns of these answers from `start` on
pub record AreKeptFrom (answers : List AnswerRow) (start : ℕ) (piece : List ColumnAnswer) : Type 0 where
  pub are : (k : ℕ) (default : ColumnAnswer) → k < length piece
      → AgreeUnmarked (failed_of (map answer_word answers)) (column (answer_bytes answers) (start + k)) (slice_index_or piece k default).bytes

-- a block has at each place the byte of that row's answer, of failed rows too
abbrev pub AreRowsHeld : List AnswerRow → List (List ℕ) → Type 0
AreRowsHeld answers block =
    (i j : ℕ) (default : AnswerRow) → i < 208 → j < 182 → place block i j ≡ slice_index (slice_index_or answers i default).bytes j

-- the columns have at each place the byte of that row's answer, of failed rows too
pub record AreColumnsHeld (answers : List AnswerRow) (columns : List ColumnAnswer) : Type 0 where
  pub are : (i j : ℕ) (row : AnswerRow) (default : ColumnAnswer) → i < 208 → j < 182
      → slice_index (slice_index_or columns j default).bytes i ≡ slice_index (slice_index_or answers i row).bytes j

-- the same answers, but that failed rows may have other bytes
pub record AreSameAnswers (old new : List AnswerRow) : Type 0 where
  pub size : length new ≡ length old
  pub fixes : (i : ℕ) (default : AnswerRow) → (slice_index_or new i default).fix ≡ (slice_index_or old i default).fix
  pub bytes : (i : ℕ) (default : AnswerRow) → is_some (slice_index_or old i default).fix ≡ true
      → (slice_index_or new i default).bytes ≡ (slice_index_or old i default).bytes
