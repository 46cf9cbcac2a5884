-- The proof of `answer_rows` in src/row_step.rt.
use Rattle.std.proofs.Common.{◌≡◌, ◌∙◌, ◌+◌, ◌*◌, subst, arith}
use Rattle.std.proofs.lemmas.List.{length-map}
use Rattle.dvd_capture.specs.Parts.{marks_of_row, marks_of_rows}
use Rattle.dvd_deep.specs.Inner.Buffers.{buffered_state}
use Rattle.dvd_deep.specs.Inner.Steps.{IsStepped}
use Rattle.dvd_deep.specs.Rounds.{State, failed_marks, row_step}
use Rattle.dvd_deep.proofs.RowStep.{none-stepped, stepped-all}
use Rattle.dvd_deep.proofs.row_step.answer_rows.Goals as goal

pub loop-group-init : goal.loop-group-init
loop-group-init c = none-stepped c.args.rows.now (marks_of_rows c.args.marks.now) c.none-failed.result.marks c.none-failed.ensures

pub loop-group-preserved : goal.loop-group-preserved
loop-group-preserved c =
    let state : State = buffered_state c.args.rows.now c.args.marks.now in
    subst (IsStepped state c.answer_row_group.new.rows (marks_of_rows c.answer_row_group.new.marks) c.answer_row_group.new.failed.marks)
    {x = 32 * c.loop-group.group + 32} (omega arith) (c.answer_row_group.ensures.stepped state c.loop-group.invariant)

-- once the last group is answered all rows have had their step
passed : (c : goal.After-answer_row_group-2) → IsStepped (buffered_state c.args.rows.now c.args.marks.now) c.answer_row_group-2.new.rows
    (marks_of_rows c.answer_row_group-2.new.marks) c.answer_row_group-2.new.failed.marks 208
passed c =
    let state : State = buffered_state c.args.rows.now c.args.marks.now in
    let last : 32 * c.loop-group.group ≡ 192 = omega arith in
    c.answer_row_group-2.ensures.stepped state
    (subst (IsStepped state c.loop-group.rows (marks_of_rows c.loop-group.marks) c.loop-group.failed.marks) last c.loop-group.invariant)

-- with all rows passed, state and flags are those of the row step
both : (c : goal.After-answer_row_group-2) → (buffered_state c.answer_row_group-2.new.rows c.answer_row_group-2.new.marks ≡ row_step (buffered_state c.args.rows.now c.args.marks.now))
    × (c.answer_row_group-2.new.failed.marks ≡ failed_marks (buffered_state c.args.rows.now c.args.marks.now))
both c =
    stepped-all (buffered_state c.args.rows.now c.args.marks.now) c.answer_row_group-2.new.rows (marks_of_rows c.answer_row_group-2.new.marks) c.answer_row_group-2.new.failed.marks
    c.answer_row_group-2.array_long (length-map c.answer_row_group-2.new.marks marks_of_row ∙ c.answer_row_group-2.array_long2) c.answer_row_group-2.new.failed.size (passed c)

pub returns-clause-state : goal.returns-clause-state
returns-clause-state c = (both c).0

pub returns-clause-failed : goal.returns-clause-failed
returns-clause-failed c = (both c).1

-- each row of the new rows has 182 bytes
pub returns-clause-wide : goal.returns-clause-wide
returns-clause-wide c = (passed c).wide
