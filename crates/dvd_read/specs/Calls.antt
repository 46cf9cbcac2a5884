-- Ours: what the calls that decode and read a captured block do, whoever does the pieces of both passes.
use Rattle.std.specs.Prelude.{◌≡◌, ◌≤◌, Bool, List, None, Some, map, replicate, Result, IsTrue, IfErr, IfOk, OnErr, OnOk}
use Rattle.coding.specs.Filling.{marked}
use Rattle.dvd_capture.specs.Answers.{AreAnswers}
use Rattle.dvd_capture.specs.Rule.{HasAnswers}
use Rattle.coding.specs.TwoPass.{answers_of, failed_of}
use Rattle.dvd_capture.specs.Works.{answers_of_work, block_of, marks_of_work, rows_of, sectors_of, stage_of}
use Rattle.dvd_capture.specs.Parts.{column_answers}
use Rattle.dvd_capture.specs.declared.parts.AnswerRow.{AnswerRow}
use Rattle.dvd_capture.specs.declared.parts.ColumnAnswer.{ColumnAnswer}
use Rattle.dvd_capture.specs.declared.stage.Stage.TheVariants.{Fixed as StageFixed, Refused as StageRefused}
use Rattle.dvd_capture.specs.declared.work.Work.{Work}
use Rattle.dvd_layout.specs.declared.entry.BlockPlan.{BlockPlan}
use Rattle.dvd_decoding.specs.Causes.{two_pass_cause}
use Rattle.coding.specs.Found.{block_differences, block_found}
use Rattle.dvd_decoding.specs.Frames.{frames_cause, main_data}
use Rattle.dvd_decoding.specs.Reading.{block_cause, block_in, IsReadAs}
use Rattle.dvd_decoding.specs.declared.cause.Cause.{Cause}
use Rattle.dvd_read.specs.declared.fixed.Fixed.{Fixed}
use Rattle.dvd_read.specs.declared.passes.Answered.{Answered}
use Rattle.dvd_read.specs.Parts.{AreAnswersFrom, AreColumnsFrom, AreColumnsHeld, answer_word}

-- The second pass answered these columns of the rows' answers, where no more rows failed than it corrects. Where that is
-- known, the rows' answers have the columns' bytes.
pub record AreColumnsAnswered (answers : List AnswerRow) (columns : List ColumnAnswer) (are_held : Bool) : Type 0 where
  pub found : marked (failed_of (map answer_word answers)) ≤ 16 → AreColumnsFrom (map answer_word answers) 0 columns
  pub held : IsTrue are_held → AreColumnsHeld answers columns

-- Both passes answered the rows and the columns of a captured block, and these are the rows that failed.
pub record AreBothAnswered (work : Work) (answered : Answered) : Type 0 where
  pub rows : AreAnswersFrom (rows_of work) (marks_of_work work) 0 (answers_of_work work)
  pub columns : AreColumnsAnswered (answers_of_work work) (column_answers work.columns) answered.are_held
  pub failed : answered.failed.marks ≡ failed_of (map answer_word (answers_of_work work))

-- A captured block was decoded by two passes: its columns are a block, or there is a first cause, and the stage says
-- which.
pub record IsDecoded (old new : Work) (answer : Result Fixed Cause) : Type 0 where
  pub refused : IfErr answer (λ cause. two_pass_cause (answers_of (rows_of old) (marks_of_work old)) ≡ Some cause)
  pub fixed : OnOk answer (two_pass_cause (answers_of (rows_of old) (marks_of_work old)) ≡ None)
  pub block : OnOk answer (block_of new ≡ block_found (answers_of (rows_of old) (marks_of_work old)))
  pub bytes : IfOk answer (λ fixed. fixed.bytes ≡ block_differences (rows_of old) (block_of new))
  pub failed_rows : IfOk answer (λ fixed. fixed.failed_rows ≡ marked (failed_of (answers_of (rows_of old) (marks_of_work old))))
  pub stage_fixed : OnOk answer (stage_of new ≡ StageFixed)
  pub stage_refused : OnErr answer (stage_of new ≡ StageRefused)
  pub answers : AreAnswers (rows_of old) (marks_of_work old) (answers_of_work new)
  pub received : new.received ≡ old.received
  pub marks : new.marks ≡ old.marks
  pub sectors : new.sectors ≡ old.sectors

-- The frames of a block that two passes fixed were checked as those of an entry: their Main Data are the sectors, or
-- these are zeros and there is a first cause.
pub record AreFramesChecked (old new : Work) (plan : BlockPlan) (answer : Result (Unit {0}) Cause) : Type 0 where
  pub refused : IfErr answer (λ cause. frames_cause (block_of old) plan ≡ Some cause)
  pub right : OnOk answer (frames_cause (block_of old) plan ≡ None)
  pub main : OnOk answer (sectors_of new ≡ main_data (block_of old) plan)
  pub zeros : OnErr answer (sectors_of new ≡ replicate 16 (replicate 2048 0))
  pub stage : stage_of new ≡ StageFixed
  pub received : new.received ≡ old.received
  pub marks : new.marks ≡ old.marks
  pub answers : new.answers ≡ old.answers
  pub columns : new.columns ≡ old.columns

-- A captured block was read as an entry of a plan: its sectors are there, or zeros and a first cause.
pub record IsBlockRead (old new : Work) (plan : BlockPlan) (answer : Result Fixed Cause) : Type 0 where
  pub read : OnOk answer (IsReadAs (rows_of old) (marks_of_work old) plan (sectors_of new))
  pub right : OnOk answer (block_cause (rows_of old) (marks_of_work old) plan ≡ None)
  pub refused : IfErr answer (λ cause. block_cause (rows_of old) (marks_of_work old) plan ≡ Some cause)
  pub zeros : OnErr answer (sectors_of new ≡ replicate 16 (replicate 2048 0))
  pub block : OnOk answer (block_of new ≡ block_in (rows_of old) (marks_of_work old))
  pub bytes : IfOk answer (λ fixed. fixed.bytes ≡ block_differences (rows_of old) (block_of new))
  pub failed_rows : IfOk answer (λ fixed. fixed.failed_rows ≡ marked (failed_of (answers_of (rows_of old) (marks_of_work old))))
  pub stage : HasAnswers (stage_of new)
  pub stage_fixed : OnOk answer (stage_of new ≡ StageFixed)
  pub answers : AreAnswers (rows_of old) (marks_of_work old) (answers_of_work new)
  pub received : new.received ≡ old.received
  pub marks : new.marks ≡ old.marks
