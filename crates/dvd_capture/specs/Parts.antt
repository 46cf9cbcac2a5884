-- What the contracts see of the buffers of a captured block.
use Rattle.std.specs.Prelude.{ℕ, ◌*◌, Bool, List, drop, map, take}
use Rattle.std.specs.List.{range_with_len}
use Rattle.dvd_capture.specs.MarkBits.{marks_of}
use Rattle.dvd_capture.specs.declared.parts.Received.{Received}
use Rattle.dvd_capture.specs.declared.parts.Marks.{Marks}
use Rattle.dvd_capture.specs.declared.parts.AnswerRow.{AnswerRow}
use Rattle.dvd_capture.specs.declared.parts.Answers.{Answers}
use Rattle.dvd_capture.specs.declared.parts.ColumnAnswer.{ColumnAnswer}
use Rattle.dvd_capture.specs.declared.parts.Columns.{Columns}
use Rattle.dvd_capture.specs.declared.parts.Sectors.{Sectors}
use Rattle.dvd_capture.specs.declared.row_marks.RowMarks.{RowMarks}

-- row i of rows that lie one after the other
abbrev pub row_in : List ℕ → ℕ → List ℕ
row_in bytes i = take 182 (drop (182 * i) bytes)

-- the 208 rows of 182 bytes that lie so
unfoldable pub rows_in : List ℕ → List (List ℕ)
rows_in bytes = map (row_in bytes) (range_with_len 0 208)

-- the bytes of the received rows
abbrev pub received_bytes : Received → List ℕ
received_bytes received = received.bytes.items

-- the 208 received rows
abbrev pub received_rows : Received → List (List ℕ)
received_rows received = rows_in (received_bytes received)

-- the bytes of one row's mark bits
abbrev pub bits_of_row : RowMarks → List ℕ
bits_of_row marks = marks.bits

-- the marks of one row
abbrev pub marks_of_row : RowMarks → List Bool
marks_of_row marks = marks_of marks.bits

-- the marks of several rows
abbrev pub marks_of_rows : List RowMarks → List (List Bool)
marks_of_rows rows = map marks_of_row rows

-- the marks of the received rows
abbrev pub marks_rows : Marks → List (List Bool)
marks_rows marks = marks_of_rows marks.rows.items

-- the 208 row answers
abbrev pub answer_rows : Answers → List AnswerRow
answer_rows answers = answers.rows.items

-- the 182 columns
abbrev pub column_answers : Columns → List ColumnAnswer
column_answers columns = columns.all.items

-- their bytes
abbrev pub column_words : Columns → List (List ℕ)
column_words columns = map (λ (column : ColumnAnswer). column.bytes) columns.all.items

-- the 16 sectors of 2,048 bytes
abbrev pub sector_bytes : Sectors → List (List ℕ)
sector_bytes sectors = sectors.all.items
