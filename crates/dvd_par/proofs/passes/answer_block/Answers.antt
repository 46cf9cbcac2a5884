-- The proof of `answer_block` in src/passes.rt.
use Rattle.std.proofs.Common.{◌≡◌, ◌∙◌, List, length, map, sym, ap, subst, arith}
use Rattle.std.proofs.lemmas.List.{with_items_is}
use Rattle.std.specs.Vec.{with_items}
use Rattle.coding.specs.TwoPass.{failed_of}
use Rattle.dvd_capture.specs.Parts.{column_answers}
use Rattle.dvd_capture.specs.Works.{answers_of_work, marks_of_work, rows_of}
use Rattle.dvd_capture.specs.declared.parts.AnswerRow.{AnswerRow}
use Rattle.dvd_capture.specs.declared.parts.ColumnAnswer.{ColumnAnswer}
use Rattle.dvd_capture.specs.declared.work.Work.{Work}
use Rattle.dvd_read.specs.Calls.{AreBothAnswered, AreColumnsAnswered}
use Rattle.dvd_read.specs.Parts.{AreAnswersFrom, AreSameAnswers, answer_word}
use Rattle.dvd_read.specs.declared.passes.Answered.{Answered}
use Rattle.dvd_read.proofs.Holding.{same-answers, same-words}
use Rattle.dvd_par.proofs.passes.answer_block.Goals as goal

-- what both passes left in the buffers that they were lent
both : (work : Work) (answered : Answered) (old now : List AnswerRow) (columns : List ColumnAnswer) → answers_of_work work ≡ now → column_answers work.columns ≡ columns
    → AreAnswersFrom (rows_of work) (marks_of_work work) 0 old → answered.failed.marks ≡ failed_of (map answer_word old)
    → AreSameAnswers old now → AreColumnsAnswered now columns answered.are_held
    → AreBothAnswered work answered
both work answered old now columns rows_are columns_are from failed same found = record {
  rows = subst (AreAnswersFrom (rows_of work) (marks_of_work work) 0) (sym rows_are) (same-answers (rows_of work) (marks_of_work work) old now same from);
  columns = subst (λ (rows : List AnswerRow). AreColumnsAnswered rows (column_answers work.columns) answered.are_held) (sym rows_are)
      (subst (λ (all : List ColumnAnswer). AreColumnsAnswered now all answered.are_held) (sym columns_are) found);
  failed = failed ∙ ap failed_of (sym (same-words old now same)) ∙ ap (λ (rows : List AnswerRow). failed_of (map answer_word rows)) (sym rows_are);
}

pub returns-clause-answered : goal.returns-clause-answered
returns-clause-answered g c =
    let work : Work = c.set_stage.new.self in
    let first : List AnswerRow = c.row_pass.new.answers in
    let old : List AnswerRow = c.rows_mut-answers-2.result.now in
    let now : List AnswerRow = c.column_pass-are_held.new.answers in
    let columns : List ColumnAnswer = c.column_pass-are_held.new.columns in
    let first_size : length first ≡ work.answers.rows.len = omega (arith, c.row_pass.auto.answers, c.rows_mut-answers.ensures.size, work.answers.size) in
    let size : length now ≡ work.answers.rows.len = omega (arith, c.column_pass-are_held.ensures.same.size, c.rows_mut-answers-2.ensures.size, work.answers.size) in
    let columns_size : length columns ≡ work.columns.all.len = omega (arith, c.column_pass-are_held.auto.columns, c.all_mut-columns.ensures.size, work.columns.size) in
    both _ _ old now columns
    (with_items_is (with_items work.answers.rows first) now size)
    (with_items_is work.columns.all columns columns_size)
    (subst (AreAnswersFrom (rows_of work) (marks_of_work work) 0) (sym (c.rows_mut-answers-2.ensures.rows ∙ with_items_is work.answers.rows first first_size)) c.row_pass.ensures)
    (c.of-failed.ensures ∙ ap (λ (rows : List AnswerRow). failed_of (map answer_word rows)) (c.rows.ensures.rows ∙ sym c.rows_mut-answers-2.ensures.rows))
    c.column_pass-are_held.ensures.same c.column_pass-are_held.ensures.answered
