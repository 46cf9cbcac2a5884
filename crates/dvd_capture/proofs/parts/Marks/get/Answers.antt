-- The proof of `Marks::get` in src/parts.rt.
use Rattle.std.proofs.Common.{◌∙◌, ◌<◌, Bool, false, List, length, get_or, sym, ap, arith}
use Rattle.dvd_capture.specs.Parts.{marks_of_row}
use Rattle.dvd_capture.specs.declared.row_marks.RowMarks.{RowMarks}
use Rattle.dvd_capture.proofs.MarkLists.{line-marks}
use Rattle.dvd_capture.proofs.parts.Marks.get.Goals as goal

pub returns : goal.returns
returns c =
    let rows : List RowMarks = c.args.self.now.rows.items in
    let within : c.args.i < length rows = omega (arith, c.args.self.now.size, c.args.self.now.rows.ok.0, c.requires.row) in
    c.get.ensures
    ∙ ap (λ (marks : List Bool). get_or marks c.args.j false) (ap marks_of_row c.index.ensures ∙ sym (line-marks rows c.args.i c.index.result.now within))
