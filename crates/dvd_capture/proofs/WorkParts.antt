-- The buffers of a captured block as lists.
use Rattle.std.proofs.Common.{◌≡◌, ◌∙◌, ℕ, ◌<◌, false, List, [], length, get_or, slice_index, sym, ap, arith}
use Rattle.std.proofs.lemmas.List.{get_or-map, length-map}
use Rattle.coding.specs.Product.{place}
use Rattle.dvd_capture.specs.Answers.{marks_line}
use Rattle.dvd_capture.specs.Parts.{column_answers, column_words, marks_of_row, marks_rows, received_bytes, received_rows}
use Rattle.coding.specs.TwoPass.{from_columns}
use Rattle.dvd_capture.specs.declared.parts.ColumnAnswer.{ColumnAnswer}
use Rattle.dvd_capture.specs.declared.parts.Columns.{Columns}
use Rattle.dvd_capture.specs.declared.parts.Marks.{Marks}
use Rattle.dvd_capture.specs.declared.parts.Received.{Received}
use Rattle.dvd_capture.proofs.Columns.{from_columns-line}
use Rattle.dvd_capture.proofs.FlatRows.{rows_in-height}
use Rattle.dvd_capture.proofs.MarkLists.{length-line}

-- there are 208 rows
pub rows-height : (received : Received) → length (received_rows received) ≡ 208
rows-height received = rows_in-height (received_bytes received)

-- and as many rows of marks
pub marks-height : (marks : Marks) → length (marks_rows marks) ≡ 208
marks-height marks = length-map marks.rows.items marks_of_row ∙ sym marks.rows.ok.0 ∙ marks.size

-- each of these has 182 marks
pub marks-width : (marks : Marks) (i : ℕ) → i < 208 → length (marks_line (marks_rows marks) i) ≡ 182
marks-width marks i below = length-line marks.rows.items i (omega (arith, marks.size, marks.rows.ok.0))

-- byte i of column j is in row i of the block at place j
pub block-place : (columns : Columns) (i j : ℕ) → i < 208 → j < 182
    → slice_index (get_or (column_answers columns) j (record { bytes = []; answered = false })).bytes i ≡ place (from_columns (column_words columns)) i j
block-place columns i j row below =
    let within : j < length columns.all.items = omega (arith, columns.size, columns.all.ok.0) in
    let words_within : j < length (column_words columns) = omega (arith, columns.size, columns.all.ok.0, length-map columns.all.items (λ (column : ColumnAnswer). column.bytes)) in
    ap (λ (word : List ℕ). slice_index word i) (sym (get_or-map (λ (column : ColumnAnswer). column.bytes) columns.all.items j (record { bytes = []; answered = false }) [] within))
    ∙ sym (get_or-map (λ word. slice_index word i) (column_words columns) j [] 0 words_within)
    ∙ sym (ap (λ (row : List ℕ). slice_index row j) (from_columns-line (column_words columns) i row))
