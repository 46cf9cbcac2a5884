-- The proof of `RowMarks::spread` in src/row_marks.rt.
use Rattle.std.proofs.Common.{◌∙◌, sym}
use Rattle.dvd_capture.proofs.MarkLists.{mark-marks_of}
use Rattle.dvd_capture.proofs.row_marks.RowMarks.spread.Goals as goal

pub returns : goal.returns
returns c = λ j below. c.spread_bits.ensures j below ∙ sym (mark-marks_of c.args.self.now.bits j below)
