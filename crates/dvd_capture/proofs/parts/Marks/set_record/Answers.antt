-- The proof of `Marks::set_record` in src/parts.rt.
use Rattle.std.proofs.Common.{◌∙◌, Bool, List, ap, map, set}
use Rattle.std.proofs.lemmas.List.{map-set}
use Rattle.dvd_capture.specs.Parts.{marks_of_row}
use Rattle.dvd_capture.specs.declared.row_marks.RowMarks.{RowMarks}
use Rattle.dvd_capture.proofs.parts.Marks.set_record.Goals as goal

pub returns : goal.returns
returns c =
    let rows : List RowMarks = c.args.self.now.rows.items in
    map-set marks_of_row rows c.args.i c.copy_from_record.new.self
    ∙ ap (λ (marks : List Bool). set (map marks_of_row rows) c.args.i marks) c.copy_from_record.ensures
