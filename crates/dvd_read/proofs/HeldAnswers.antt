-- What the buffers hold of a block whose rows are answered.
use Rattle.std.proofs.Common.{◌≡◌, ◌∙◌, Bool, List, length, map, sym, ap, arith, is_none, IsTrue, ◌↔◌}
use Rattle.coding.specs.Found.{block_found}
use Rattle.coding.specs.TwoPass.{answers_of, from_columns}
use Rattle.dvd_capture.proofs.WorkParts.{marks-height, rows-height}
use Rattle.dvd_capture.specs.Parts.{column_answers}
use Rattle.dvd_capture.specs.Rule.{HasAnswers}
use Rattle.dvd_capture.specs.Works.{answers_of_work, block_of, marks_of_work, rows_of, stage_of}
use Rattle.dvd_capture.specs.declared.parts.AnswerRow.{AnswerRow}
use Rattle.dvd_capture.specs.declared.parts.ColumnAnswer.{ColumnAnswer}
use Rattle.dvd_capture.specs.declared.stage.Stage.TheVariants.{Fixed}
use Rattle.dvd_capture.specs.declared.work.Work.{Work}
use Rattle.dvd_decoding.specs.Causes.{two_pass_cause}
use Rattle.dvd_read.specs.Inner.Found.{HoldAnswers, words_of_columns}
use Rattle.dvd_read.specs.Parts.{answer_word}
use Rattle.dvd_read.proofs.RowAnswers.{block_answers}
use Rattle.dvd_read.proofs.SavedLaws.{fixed-found, fixed-told}

-- there are 208 answers of rows
answers_size : (work : Work) → length (answers_of_work work) ≡ 208
answers_size work = omega (arith, work.answers.size, work.answers.rows.ok.0)

-- the rows' answers are those of the first pass
pub words : (work : Work) (rows : List AnswerRow) → rows ≡ answers_of_work work → HasAnswers (stage_of work)
    → map answer_word rows ≡ answers_of (rows_of work) (marks_of_work work)
words work rows are answered =
    ap (map answer_word) are ∙ block_answers work.received work.marks (answers_of_work work) (answers_size work) (work.answered answered)

-- and where two passes fixed the block, the columns hold it
pub held : (work : Work) (fixed : Bool) (columns : List ColumnAnswer) (rows : List AnswerRow) → columns ≡ column_answers work.columns
    → length columns ≡ 182 → rows ≡ answers_of_work work → (IsTrue fixed ↔ stage_of work ≡ Fixed) → HasAnswers (stage_of work)
    → HoldAnswers fixed columns rows
held work fixed columns rows columns_are size are said answered =
    let same = sym (words work rows are answered) in
    record {
      columns = size;
      rows = ap (λ (some_rows : List AnswerRow). length some_rows) are ∙ answers_size work;
      fixed = fixed-told (rows_of work) (marks_of_work work) (rows-height work.received) (marks-height work.marks) (stage_of work) fixed said (block_of work)
          answered work.refused work.fixed
          ∙ ap (λ answers. is_none (two_pass_cause answers)) same;
      block = λ found.
          ap (λ (all : List ColumnAnswer). from_columns (words_of_columns all)) columns_are
          ∙ fixed-found (rows_of work) (marks_of_work work) (rows-height work.received) (marks-height work.marks) (stage_of work) fixed said (block_of work)
          work.fixed found
          ∙ ap block_found same;
    }
