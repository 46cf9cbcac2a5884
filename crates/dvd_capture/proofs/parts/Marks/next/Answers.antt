-- The proof of `Marks::next` in src/parts.rt.
use Rattle.std.proofs.Common.{◌∙◌, ◌<◌, Bool, false, List, length, get_or, sym, ap, subst, arith}
use Rattle.dvd_capture.specs.Inner.Listing.{IsFound}
use Rattle.dvd_capture.specs.Parts.{marks_of_row}
use Rattle.dvd_capture.specs.declared.row_marks.RowMarks.{RowMarks}
use Rattle.dvd_capture.proofs.MarkLists.{found-marks, line-marks}
use Rattle.dvd_capture.proofs.parts.Marks.next.Goals as goal

pub returns : goal.returns
returns c =
    let rows : List RowMarks = c.args.self.now.rows.items in
    let within : c.args.i < length rows = omega (arith, c.args.self.now.size, c.args.self.now.rows.ok.0, c.requires.row) in
    subst (λ (marks : List Bool). IsFound (λ j. get_or marks j false) c.args.mark c.args.from 182 c.next.result)
    (ap marks_of_row c.index.ensures ∙ sym (line-marks rows c.args.i c.index.result.now within))
    (found-marks c.index.result.now.bits c.args.mark c.args.from c.next.result c.next.ensures)
