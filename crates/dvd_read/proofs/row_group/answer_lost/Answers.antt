-- The proof of `answer_lost` in src/row_group.rt.
use Rattle.dvd_capture.specs.Parts.{marks_of_row}
use Rattle.dvd_capture.proofs.MarkLists.{length-marks_of}
use Rattle.dvd_read.proofs.RowAnswers.{lost-none}
use Rattle.dvd_read.proofs.row_group.answer_lost.Goals as goal

pub returns : goal.returns
returns c =
    lost-none c.args.row.now (marks_of_row c.args.marks.now) c.told-row (length-marks_of c.args.marks.now.bits) c.requires
