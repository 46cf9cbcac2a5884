-- The proof of `answer_column` in src/column_step.rt.
use Rattle.std.proofs.Common.{◌≡◌, ◌∙◌, ℕ, List, false, length, is_some, sym, ap}
use Rattle.std.specs.Option.{option_or}
use Rattle.coding.specs.Nearest.{near_of}
use Rattle.dvd_capture.specs.Parts.{marks_of_rows}
use Rattle.dvd_deep.specs.Inner.Buffers.{buffered_state}
use Rattle.dvd_deep.specs.Rounds.{column_marks, column_near}
use Rattle.dvd_deep.proofs.ColumnStep.{unanswered-put}
use Rattle.dvd_deep.proofs.column_step.answer_column.Goals as goal

pub returns-then-not-answer-clause-column : goal.returns-then-not-answer-clause-column
returns-then-not-answer-clause-column c =
    let rows : List (List ℕ) = c.args.rows.now in
    let height : length rows ≡ 208 = c.told-rows in
    let none : is_some (column_near c.args.tries.now.failed.now (buffered_state c.args.rows.now c.args.tries.now.marks.now) c.args.j) ≡ false =
    ap (λ (word : List ℕ). is_some (option_or (near_of 208 16 word c.args.tries.now.failed.now) (near_of 208 16 word (column_marks (marks_of_rows c.args.tries.now.marks.now) c.args.j)))) (sym c.read_column.ensures)
    ∙ sym c.answer.ensures.answered ∙ c.if-not-answer.true in
    unanswered-put (column_near c.args.tries.now.failed.now (buffered_state c.args.rows.now c.args.tries.now.marks.now) c.args.j) rows c.args.j height none
