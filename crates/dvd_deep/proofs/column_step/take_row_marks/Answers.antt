-- The proof of `take_row_marks` in src/column_step.rt.
use Rattle.std.proofs.Common.{rules, ◌≡◌, false, replicate}
use Rattle.dvd_capture.specs.Parts.{marks_of_row}
use Rattle.dvd_deep.proofs.MarksTaken.{none-taken}
use Rattle.dvd_deep.proofs.column_step.take_row_marks.Goals as goal

pub returns-then-is_clear : goal.returns-then-is_clear
returns-then-is_clear c =
    let clear : marks_of_row c.args.row.now ≡ replicate 182 false = search rules in
    λ j inside. none-taken c.args.answered.now (marks_of_row c.args.row.now) j clear inside
