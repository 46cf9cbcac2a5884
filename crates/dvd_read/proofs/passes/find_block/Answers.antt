-- The proof of `find_block` in src/passes.rt.
use Rattle.std.proofs.Common.{◌≡◌, ℕ, List, length, map, None, Some, subst, arith}
use Rattle.std.specs.Prelude.{IfErr, IfOk, OnErr, OnOk, Result, Ok, Err}
use Rattle.std.specs.declared.option.Option.{Option}
use Rattle.coding.specs.Filling.{marked}
use Rattle.dvd_capture.specs.Rule.{HasNoTwoPass}
use Rattle.coding.specs.TwoPass.{AgreesWith, answers_of, failed_of}
use Rattle.dvd_capture.specs.Works.{answers_of_work, block_of, marks_of_work, rows_of}
use Rattle.dvd_capture.specs.declared.work.Work.{Work}
use Rattle.dvd_decoding.specs.Causes.{two_pass_cause}
use Rattle.coding.specs.Found.{block_found}
use Rattle.dvd_read.specs.Parts.{AreAnswersFrom, answer_word}
use Rattle.dvd_decoding.specs.declared.cause.Cause.{Cause}
use Rattle.dvd_read.proofs.Codewords.{answers-codewords}
use Rattle.dvd_read.proofs.Outcomes.{cause-none_agrees}
use Rattle.dvd_read.proofs.RowAnswers.{answers-whole, block_answers, length-block_answers}
use Rattle.dvd_read.proofs.passes.find_block.Goals as goal

-- what the first pass answers to a captured block
abbrev answers_in : Work → List (Option (List ℕ))
answers_in work = answers_of (rows_of work) (marks_of_work work)

-- the answers of a captured block are those of the first pass
words : (work : Work) → AreAnswersFrom (rows_of work) (marks_of_work work) 0 (answers_of_work work) → map answer_word (answers_of_work work) ≡ answers_in work
words work from =
    let size : length (answers_of_work work) ≡ 208 = omega (arith, work.answers.size, work.answers.rows.ok.0) in
    block_answers work.received work.marks (answers_of_work work) size (answers-whole (rows_of work) (marks_of_work work) (answers_of_work work) size from)

-- a block that is refused for a cause has no two-pass agreement
none_by : (work : Work) (r : Result ℕ Cause) → IfErr r (λ cause. two_pass_cause (answers_in work) ≡ Some cause)
    → OnErr r (HasNoTwoPass (rows_of work) (marks_of_work work))
none_by work (Ok count) is = tt
none_by work (Err cause) is =
    λ block agrees. cause-none_agrees (answers_in work) cause block (length-block_answers work.received work.marks) is agrees

pub find_columns-requires-clause-codewords : goal.find_columns-requires-clause-codewords
find_columns-requires-clause-codewords c =
    let work : Work = c.args.work.now in
    let size : length (answers_of_work work) ≡ 208 = omega (arith, work.answers.size, work.answers.rows.ok.0) in
    rw c.rows.ensures.rows
    (answers-codewords (rows_of work) (marks_of_work work) (answers_of_work work)
    (answers-whole (rows_of work) (marks_of_work work) (answers_of_work work) size c.requires.answers))

pub returns-clause-answers : goal.returns-clause-answers
returns-clause-answers c =
    let work : Work = c.args.work.now in
    answers-whole (rows_of work) (marks_of_work work) (answers_of_work work) (omega (arith, work.answers.size, work.answers.rows.ok.0)) c.requires.answers

-- the words of the rows that were lent
abbrev lent : (c : goal.After-find_columns) → map answer_word c.rows.result.now ≡ answers_in c.args.work.now
lent c = rw c.rows.ensures.rows (words c.args.work.now c.requires.answers)

pub returns-clause-refused : goal.returns-clause-refused
returns-clause-refused c =
    subst (λ (a : List (Option (List ℕ))). IfErr c.find_columns.result (λ cause. two_pass_cause a ≡ Some cause)) (lent c) c.find_columns.ensures.refused

pub returns-clause-none : goal.returns-clause-none
returns-clause-none c = none_by c.args.work.now c.find_columns.result (returns-clause-refused c)

pub returns-clause-found : goal.returns-clause-found
returns-clause-found c =
    subst (λ (a : List (Option (List ℕ))). OnOk c.find_columns.result (two_pass_cause a ≡ None)) (lent c) c.find_columns.ensures.found

pub returns-clause-block : goal.returns-clause-block
returns-clause-block c =
    subst (λ (a : List (Option (List ℕ))). OnOk c.find_columns.result (block_of c.args.work.now ≡ block_found a)) (lent c)
    (rw c.all.ensures.columns at c.find_columns.ensures.block)

pub returns-clause-agrees : goal.returns-clause-agrees
returns-clause-agrees c =
    subst (λ (a : List (Option (List ℕ))). OnOk c.find_columns.result (AgreesWith a (block_of c.args.work.now))) (lent c)
    (rw c.all.ensures.columns at c.find_columns.ensures.agrees)

pub returns-clause-failed : goal.returns-clause-failed
returns-clause-failed c =
    subst (λ (a : List (Option (List ℕ))). IfOk c.find_columns.result (λ failed. failed ≡ marked (failed_of a))) (lent c) c.find_columns.ensures.failed
