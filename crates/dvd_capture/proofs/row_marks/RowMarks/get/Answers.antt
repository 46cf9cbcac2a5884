-- The proof of `RowMarks::get` in src/row_marks.rt.
use Rattle.std.proofs.Common.{◌∙◌, sym}
use Rattle.dvd_capture.proofs.MarkLists.{mark-marks_of}
use Rattle.dvd_capture.proofs.row_marks.RowMarks.get.Goals as goal

pub returns : goal.returns
returns c = c.is_marked.ensures ∙ sym (mark-marks_of c.args.self.now.bits c.args.j c.requires)
