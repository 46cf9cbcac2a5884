-- What the buffers of a captured block are after they were lent for writing.
use Rattle.std.specs.Prelude.{ℕ, List}
use Rattle.std.specs.Borrow.{Lends, MutBor, Fml, Array, u8}
use Rattle.std.specs.Vec.{with_item, with_items}
use Rattle.dvd_capture.specs.declared.parts.AnswerRow.{AnswerRow}
use Rattle.dvd_capture.specs.declared.parts.Answers.{Answers}
use Rattle.dvd_capture.specs.declared.parts.ColumnAnswer.{ColumnAnswer}
use Rattle.dvd_capture.specs.declared.parts.Columns.{Columns}
use Rattle.dvd_capture.specs.declared.parts.Received.{Received}
use Rattle.dvd_capture.specs.declared.parts.Sectors.{Sectors}
use Rattle.dvd_capture.specs.contracts.parts.Answers.{the_row as answers_row}
use Rattle.dvd_capture.specs.contracts.parts.Columns.{the_row as columns_row}
use Rattle.dvd_capture.specs.contracts.parts.Received.{the_row as received_row}
use Rattle.dvd_capture.specs.contracts.parts.Sectors.{the_row as sectors_row}
use Rattle.dvd_capture.specs.contracts.parts.AnswerRow.{the_row as answer_row}
use Rattle.dvd_capture.specs.contracts.parts.ColumnAnswer.{the_row as column_row}

-- other bytes received, as many as before
abbrev pub with_received : Received → List ℕ → Received
with_received received bytes = record { bytes = with_items received.bytes bytes; size = received.size }

-- other row answers, as many as before
abbrev pub with_answers : Answers → List AnswerRow → Answers
with_answers answers rows = record { rows = with_items answers.rows rows; size = answers.size }

-- other columns, as many as before
abbrev pub with_columns : Columns → List ColumnAnswer → Columns
with_columns columns all = record { all = with_items columns.all all; size = columns.size }

-- another sector f
abbrev pub with_sector : Sectors → ℕ → List ℕ → Sectors
with_sector sectors f main = record { all = with_item sectors.all f main; size = sectors.size }

-- the received bytes are lent for writing, and their buffer has them back, as many as before
abbrev pub LendsBytes : MutBor Received → MutBor (List ℕ) → Fml
LendsBytes received bytes = Lends received_row (Array u8 0) received bytes (with_received received.now)

-- the row answers of a block are lent for writing, and their buffer has them back, as many as before
abbrev pub LendsAnswers : MutBor Answers → MutBor (List AnswerRow) → Fml
LendsAnswers answers rows = Lends answers_row (Array answer_row 0) answers rows (with_answers answers.now)

-- the column answers are lent for writing, and their buffer has them back, as many as before
abbrev pub LendsColumns : MutBor Columns → MutBor (List ColumnAnswer) → Fml
LendsColumns columns all = Lends columns_row (Array column_row 0) columns all (with_columns columns.now)

-- sector f is lent for writing, and the buffer of sectors has it back, the others being as they were
abbrev pub LendsSector : MutBor Sectors → ℕ → MutBor (List ℕ) → Fml
LendsSector sectors f main = Lends sectors_row (Array u8 2048) sectors main (with_sector sectors.now f)
