-- The proof of `RowMarks::none` in src/row_marks.rt.
use Rattle.dvd_capture.proofs.MarkLists.{zero_marks}
use Rattle.dvd_capture.proofs.row_marks.RowMarks.none.Goals as goal

pub returns : goal.returns
returns c = zero_marks
