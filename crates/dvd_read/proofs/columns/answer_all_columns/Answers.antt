-- The proof of `answer_all_columns` in src/columns.rt.
use Rattle.std.proofs.Common.{◌≡◌, ◌∙◌, length, sym, ap, arith}
use Rattle.coding.specs.TwoPass.{failed_of}
use Rattle.dvd_read.specs.Inner.Standing.{AreOwnFrom}
use Rattle.dvd_read.proofs.Completing.{completed-answered}
use Rattle.dvd_read.proofs.Holding.{own-held, same-words}
use Rattle.dvd_read.proofs.columns.answer_all_columns.Goals as goal

pub answer_columns-requires-clause-marks : goal.answer_columns-requires-clause-marks
answer_columns-requires-clause-marks g c =
    c.of-failed.ensures ∙ ap failed_of (sym (same-words c.args.answers.now c.complete_rows-are_completed.new.answers c.complete_rows-are_completed.ensures.same))

pub returns-then-are_completed-clause-failed : goal.returns-then-are_completed-clause-failed
returns-then-are_completed-clause-failed g c =
    c.of-failed.ensures ∙ ap failed_of (sym (same-words c.args.answers.now c.complete_rows-are_completed.new.answers c.complete_rows-are_completed.ensures.same))

pub returns-else-are_completed-clause-failed : goal.returns-else-are_completed-clause-failed
returns-else-are_completed-clause-failed g c =
    c.of-failed.ensures ∙ ap failed_of (sym (same-words c.args.answers.now c.complete_rows-are_completed.new.answers c.complete_rows-are_completed.ensures.same))

pub returns-then-are_completed-clause-answered : goal.returns-then-are_completed-clause-answered
returns-then-are_completed-clause-answered g c =
    let answers = c.complete_rows-are_completed.new.answers in
    let columns = c.mark_answered.new.columns in
    let size : length answers ≡ 208 = c.complete_rows-are_completed.ensures.same.size ∙ c.requires.rows in
    let columns_size : length columns ≡ 182 = omega (arith, c.mark_answered.ensures.size) in
    let own : AreOwnFrom answers 0 columns = record {
      are = λ k d within. c.mark_answered.ensures.bytes k d ∙ c.copy_columns.ensures.are k d (omega (arith, within, c.mark_answered.ensures.size));
    } in
    record {
      found = λ few. completed-answered answers columns columns_size (λ j below. c.complete_rows-are_completed.ensures.completed c.if-are_completed.true j (omega arith) below) own
          c.mark_answered.ensures.answered;
      held = λ _. own-held answers columns size columns_size own;
    }
