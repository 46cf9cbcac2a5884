-- The proof of `read_block` in src/rounds.rt.
use Rattle.std.proofs.Common.{◌≡◌, ◌∙◌, ℕ, Bool, List, [], length, sym, ap, arith}
use Rattle.std.proofs.lemmas.List.{ext_get_or, length-map, length-set, map-set}
use Rattle.dvd_capture.specs.Answers.{marks_line}
use Rattle.dvd_capture.specs.Parts.{marks_of_row}
use Rattle.dvd_capture.specs.Works.{marks_of_work, rows_of}
use Rattle.dvd_capture.proofs.WorkParts.{marks-height, rows-height}
use Rattle.dvd_capture.specs.Parts.{marks_of_rows}
use Rattle.dvd_deep.proofs.RowStep.{copied-next}
use Rattle.dvd_deep.specs.Rounds.{state_in}
use Rattle.dvd_deep.proofs.rounds.read_block.Goals as goal

pub loop-i-preserved : goal.loop-i-preserved
loop-i-preserved c =
    let i : ℕ = c.loop-i.i in
    let marks : List (List Bool) = marks_of_rows c.loop-i.marks in
    let size : length marks ≡ 208 = length-map c.loop-i.marks marks_of_row ∙ c.loop-i.invariant.marks_height in
    record {
      height = length-set c.loop-i.rows i c.row.result.now ∙ c.loop-i.invariant.height;
      marks_height = length-set c.loop-i.marks i c.row_marks.result.now ∙ c.loop-i.invariant.marks_height;
      rows = copied-next c.loop-i.rows (rows_of c.args.work.now) i c.row.result.now [] (omega (arith, c.loop-i.invariant.height)) c.row.ensures c.loop-i.invariant.rows;
      marks = λ k below.
          ap (λ (l : List (List Bool)). marks_line l k) (map-set marks_of_row c.loop-i.marks i c.row_marks.result.now)
          ∙ copied-next marks (marks_of_work c.args.work.now) i (marks_of_row c.row_marks.result.now) [] (omega (arith, size)) c.row_marks.ensures c.loop-i.invariant.marks k below;
    }

pub returns : goal.returns
returns c =
    let work = c.args.work.now in
    let size : length (marks_of_rows c.loop-i.marks) ≡ 208 = length-map c.loop-i.marks marks_of_row ∙ c.loop-i.invariant.marks_height in
    let rows : c.loop-i.rows ≡ rows_of work =
    ext_get_or [] c.loop-i.rows (rows_of work) (c.loop-i.invariant.height ∙ sym (rows-height work.received))
    (λ k within. c.loop-i.invariant.rows k (omega (arith, c.loop-i.invariant.height))) in
    let marks : marks_of_rows c.loop-i.marks ≡ marks_of_work work =
    ext_get_or [] (marks_of_rows c.loop-i.marks) (marks_of_work work) (size ∙ sym (marks-height work.marks))
    (λ k within. c.loop-i.invariant.marks k (omega (arith, size))) in
    ap (λ (l : List (List ℕ)). state_in l (marks_of_rows c.loop-i.marks)) rows ∙ ap (state_in (rows_of work)) marks
