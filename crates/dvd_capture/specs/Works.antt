-- What the contracts see of a captured block.
use Rattle.std.specs.Prelude.{ℕ, Bool, List}
use Rattle.dvd_capture.specs.declared.stage.Stage.{Stage}
use Rattle.dvd_capture.specs.declared.parts.AnswerRow.{AnswerRow}
use Rattle.dvd_capture.specs.declared.work.Work.{Work}
use Rattle.dvd_capture.specs.Parts.{answer_rows, column_words, marks_rows, received_rows, sector_bytes}
use Rattle.coding.specs.TwoPass.{from_columns}

-- its stage
abbrev pub stage_of : Work → Stage
stage_of work = work.stage

-- its received rows
abbrev pub rows_of : Work → List (List ℕ)
rows_of work = received_rows work.received

-- their marks
abbrev pub marks_of_work : Work → List (List Bool)
marks_of_work work = marks_rows work.marks

-- its row answers
abbrev pub answers_of_work : Work → List AnswerRow
answers_of_work work = answer_rows work.answers

-- the rows of the block that its columns are
abbrev pub block_of : Work → List (List ℕ)
block_of work = from_columns (column_words work.columns)

-- its 16 sectors
abbrev pub sectors_of : Work → List (List ℕ)
sectors_of work = sector_bytes work.sectors
