-- The proof of `answer_columns` in src/column_step.rt.
use Rattle.std.proofs.Common.{◌≡◌, ◌∙◌, ◌+◌, ◌*◌, Bool, List, sym, ap, subst, arith}
use Rattle.std.proofs.lemmas.List.{length-map}
use Rattle.dvd_capture.specs.Parts.{marks_of_row, marks_of_rows}
use Rattle.dvd_capture.proofs.MarkLists.{length-line}
use Rattle.dvd_deep.specs.Inner.Buffers.{buffered_state}
use Rattle.dvd_deep.specs.Inner.Steps.{AreStepped, AreTold}
use Rattle.dvd_deep.specs.Rounds.{State}
use Rattle.dvd_deep.proofs.ColumnStep.{columns-all, marks-left, none-put, told-all}
use Rattle.dvd_deep.proofs.column_step.answer_columns.Goals as goal

pub loop-group-init : goal.loop-group-init
loop-group-init c = record {
  part = none-put c.args.failed.now c.args.rows.now (marks_of_rows c.args.marks.now) c.requires.wide;
  told = λ k below. absurd (omega arith);
}

pub loop-group-preserved : goal.loop-group-preserved
loop-group-preserved c =
    let state : State = buffered_state c.args.rows.now c.args.marks.now in
    let marks_are : state.marks ≡ marks_of_rows c.new-tries.result.marks.now = ap marks_of_rows (sym c.new-tries.ensures.marks) in
    let next : 32 * c.loop-group.group + 32 ≡ 32 * (c.loop-group.group + 1) = omega arith in
    let tried : List Bool = c.new-tries.result.failed.now in
    let same = c.new-tries.ensures.failed in
    let before = subst (λ (failed : List Bool). AreStepped failed state c.loop-group.rows (32 * c.loop-group.group)) (sym same) c.loop-group.invariant.part in
    let said = subst (λ (failed : List Bool). AreTold failed state c.loop-group.answered (32 * c.loop-group.group)) (sym same) c.loop-group.invariant.told in
    record {
      part = subst (λ (failed : List Bool). AreStepped failed state c.answer_column_group.new.rows (32 * (c.loop-group.group + 1))) same
          (subst (AreStepped tried state c.answer_column_group.new.rows) next (c.answer_column_group.ensures.stepped state c.told-rows marks_are before));
      told = subst (λ (failed : List Bool). AreTold failed state c.answer_column_group.new.answered (32 * (c.loop-group.group + 1))) same
          (subst (AreTold tried state c.answer_column_group.new.answered) next (c.answer_column_group.ensures.told state c.told-rows marks_are before said));
    }

-- once the last group is answered all columns have had their step
passed : (c : goal.After-are_all) → AreStepped c.args.failed.now (buffered_state c.args.rows.now c.args.marks.now) c.answer_column_group-2.new.rows 182
    × AreTold c.args.failed.now (buffered_state c.args.rows.now c.args.marks.now) c.answer_column_group-2.new.answered 182
passed c =
    let state : State = buffered_state c.args.rows.now c.args.marks.now in
    let marks_are : state.marks ≡ marks_of_rows c.new-tries.result.marks.now = ap marks_of_rows (sym c.new-tries.ensures.marks) in
    let last : 32 * c.loop-group.group ≡ 160 = omega arith in
    let tried : List Bool = c.new-tries.result.failed.now in
    let same = c.new-tries.ensures.failed in
    let before = subst (AreStepped tried state c.loop-group.rows) last
    (subst (λ (failed : List Bool). AreStepped failed state c.loop-group.rows (32 * c.loop-group.group)) (sym same) c.loop-group.invariant.part) in
    let said = subst (AreTold tried state c.loop-group.answered) last
    (subst (λ (failed : List Bool). AreTold failed state c.loop-group.answered (32 * c.loop-group.group)) (sym same) c.loop-group.invariant.told) in (
      subst (λ (failed : List Bool). AreStepped failed state c.answer_column_group-2.new.rows 182) same (c.answer_column_group-2.ensures.stepped state c.told-rows marks_are before),
      subst (λ (failed : List Bool). AreTold failed state c.answer_column_group-2.new.answered 182) same (c.answer_column_group-2.ensures.told state c.told-rows marks_are before said),
    )

pub returns-clause-state : goal.returns-clause-state
returns-clause-state c =
    let failed : List Bool = c.args.failed.now in
    let state : State = buffered_state c.args.rows.now c.args.marks.now in
    let rows = c.answer_column_group-2.new.rows in
    let marks = c.take_marks.new.marks in
    columns-all failed state rows (marks_of_rows marks) c.answer_column_group-2.array_long (length-map marks marks_of_row ∙ c.take_marks.ensures.height)
    (λ i below. length-line marks i (omega (arith, c.take_marks.ensures.height)))
    (passed c).0
    (marks-left failed state c.answer_column_group-2.new.answered (marks_of_rows marks) (passed c).1 c.take_marks.ensures.taken)

pub returns-clause-answered : goal.returns-clause-answered
returns-clause-answered c =
    c.are_all.ensures
    ∙ told-all c.args.failed.now (buffered_state c.args.rows.now c.args.marks.now) c.answer_column_group-2.new.answered c.answer_column_group-2.array_long2 (passed c).1
