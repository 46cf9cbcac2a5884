-- The proof of `RowMarks::where_not` in src/row_marks.rt.
use Rattle.std.proofs.Common.{◌∙◌, ap, map}
use Rattle.std.proofs.lemmas.List.{length-map}
use Rattle.dvd_capture.specs.MarkBits.{is_other, marks_of}
use Rattle.dvd_capture.proofs.PackedMarks.{marks-back}
use Rattle.dvd_capture.proofs.row_marks.RowMarks.where_not.Goals as goal

pub returns-clause-marks : goal.returns-clause-marks
returns-clause-marks c =
    ap marks_of c.pack_others.ensures ∙ marks-back (map (is_other c.args.value) c.args.bytes.now) (length-map c.args.bytes.now (is_other c.args.value) ∙ c.told-bytes)
