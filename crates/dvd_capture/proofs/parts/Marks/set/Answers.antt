-- The proof of `Marks::set` in src/parts.rt.
use Rattle.std.proofs.Common.{◌∙◌, ◌<◌, Bool, List, length, map, set, sym, ap, arith}
use Rattle.std.proofs.lemmas.List.{map-set}
use Rattle.dvd_capture.specs.Parts.{marks_of_row}
use Rattle.dvd_capture.specs.declared.row_marks.RowMarks.{RowMarks}
use Rattle.dvd_capture.proofs.MarkLists.{line-marks}
use Rattle.dvd_capture.proofs.parts.Marks.set.Goals as goal

pub returns : goal.returns
returns c =
    let rows : List RowMarks = c.args.self.now.rows.items in
    let within : c.args.i < length rows = omega (arith, c.args.self.now.size, c.args.self.now.rows.ok.0, c.requires.row) in
    map-set marks_of_row rows c.args.i c.set.new.self
    ∙ ap (set (map marks_of_row rows) c.args.i)
    (c.set.ensures
    ∙ ap (λ (marks : List Bool). set marks c.args.j c.args.mark)
    (ap marks_of_row c.index_mut.ensures.value ∙ sym (line-marks rows c.args.i c.index_mut.result.now within)))
