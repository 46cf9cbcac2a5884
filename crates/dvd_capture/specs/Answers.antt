-- What a captured block holds of its first pass: to each row the codeword near it with the numbers of its corrections,
-- or none.
use Rattle.std.specs.Prelude.{◌≡◌, ℕ, ◌<◌, Bool, List, [], slice_index_or, MatchOption, Some, None}
use Rattle.std.specs.declared.option.Option.{Option}
use Rattle.rs_decode.specs.declared.errors.Fix.{Fix}
use Rattle.rs_decode.specs.Errors.{error_count}
use Rattle.coding.specs.Filling.{marked}
use Rattle.coding.specs.Nearest.{near_of}
use Rattle.coding.specs.Product.{line}
use Rattle.dvd_capture.specs.declared.parts.AnswerRow.{AnswerRow}

-- the marks of row i
abbrev pub marks_line : List (List Bool) → ℕ → List Bool
marks_line marks i = slice_index_or marks i []

-- what the first pass answers to row i: the codeword near it, or none
abbrev pub row_answer : List (List ℕ) → List (List Bool) → ℕ → Option (List ℕ)
row_answer received marks i = near_of 182 10 (line received i) (marks_line marks i)

-- These bytes are the codeword near a received row, which is corrected at so many unmarked and so many marked places.
abbrev pub IsFix : List ℕ → List Bool → List ℕ → Fix → Type 0
IsFix row marks word fix =
    (near_of 182 10 row marks ≡ Some word) × (fix.errors ≡ error_count row word marks) × (fix.erased ≡ marked marks)

-- the answer to a row: a failed one has none
abbrev pub IsAnswer : List ℕ → List Bool → AnswerRow → Type 0
IsAnswer row marks answer = MatchOption answer.fix (near_of 182 10 row marks ≡ None) (IsFix row marks answer.bytes)

-- the answers to all rows
abbrev pub AreAnswers : List (List ℕ) → List (List Bool) → List AnswerRow → Type 0
AreAnswers received marks answers =
    (i : ℕ) (default : AnswerRow) → i < 208 → IsAnswer (line received i) (marks_line marks i) (slice_index_or answers i default)
