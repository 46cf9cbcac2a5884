-- The proof of `mark_place` in src/places.rt.
use Rattle.std.proofs.Common.{◌∙◌, ◌/◌, ◌%◌, true, set, ap, List, Bool, arith}
use Rattle.coding.specs.Recording.{row_at}
use Rattle.dvd_capture.specs.Answers.{marks_line}
use Rattle.dvd_capture.specs.Listed.{mark_of}
use Rattle.dvd_capture.specs.Parts.{marks_rows}
use Rattle.dvd_capture.proofs.Fetching.{row_at-lt}
use Rattle.dvd_capture.proofs.MarkPlaces.{mark-set_other, mark-set_same}
use Rattle.dvd_capture.proofs.WorkParts.{marks-height, marks-width}
use Rattle.dvd_capture.proofs.places.mark_place.Goals as goal

pub returns-clause-others : goal.returns-clause-others
returns-clause-others c = λ other below apart.
    let marks : List (List Bool) = marks_rows c.args.marks.now in
    let place = c.args.place in
    ap (λ (m : List (List Bool)). mark_of m other)
    (c.set.ensures ∙ ap (λ r. set marks r (set (marks_line marks r) (place % 182) true)) c.row_of_record.ensures.value)
    ∙ mark-set_other marks place true (marks-height c.args.marks.now) (marks-width c.args.marks.now (row_at (place / 182)) (row_at-lt (place / 182) (omega arith))) c.requires other below apart

pub returns-clause-same : goal.returns-clause-same
returns-clause-same c =
    let marks : List (List Bool) = marks_rows c.args.marks.now in
    let place = c.args.place in
    ap (λ (m : List (List Bool)). mark_of m place)
    (c.set.ensures ∙ ap (λ r. set marks r (set (marks_line marks r) (place % 182) true)) c.row_of_record.ensures.value)
    ∙ mark-set_same marks place true (marks-height c.args.marks.now) (marks-width c.args.marks.now (row_at (place / 182)) (row_at-lt (place / 182) (omega arith))) c.requires
