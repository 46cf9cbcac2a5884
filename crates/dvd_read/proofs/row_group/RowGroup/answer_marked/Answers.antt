-- The proof of `answer_marked` in src/row_group.rt.
use Rattle.std.proofs.Common.{◌<◌, Bool, List, subst}
use Rattle.coding.specs.Filling.{marked}
use Rattle.dvd_capture.specs.Parts.{marks_of_row}
use Rattle.dvd_capture.proofs.MarkLists.{length-marks_of}
use Rattle.dvd_read.proofs.RowAnswers.{lost-none}
use Rattle.dvd_read.proofs.row_group.RowGroup.answer_marked.Goals as goal

pub returns-in_default : goal.returns-in_default
returns-in_default c =
    lost-none c.args.row.now (marks_of_row c.args.marks.now) c.told-row (length-marks_of c.args.marks.now.bits)
    (subst (λ (marks : List Bool). 10 < marked marks) c.unpack.ensures c.in_default.ensures)
