-- The proof of `answer_both` in src/passes.rt.
use Rattle.std.proofs.Common.{◌≡◌, ◌∙◌, length, sym, ap, arith}
use Rattle.coding.specs.Filling.{marked}
use Rattle.dvd_capture.specs.Parts.{marks_rows, received_rows}
use Rattle.dvd_read.specs.Inner.Standing.{AreOwnFrom}
use Rattle.dvd_read.proofs.Completing.{codeword-completed, completed-answered}
use Rattle.dvd_read.proofs.Holding.{own-held, same-answers}
use Rattle.dvd_read.proofs.ParityRows.{none-failed, taken-answered}
use Rattle.dvd_read.proofs.Standing.{marked-clear}
use Rattle.dvd_read.proofs.passes.answer_both.Goals as goal

pub returns-then-not-answer_or_take_rows-clause-rows : goal.returns-then-not-answer_or_take_rows-clause-rows
returns-then-not-answer_or_take_rows-clause-rows g c =
    same-answers (received_rows c.args.received.now) (marks_rows c.args.marks.now) c.answer_or_take_rows.new.answers c.answer_all_columns.new.answers c.answer_all_columns.ensures.same
    (c.answer_or_take_rows.ensures.answered c.if-not-answer_or_take_rows.true)

pub returns-then-are_codewords-clause-rows : goal.returns-then-are_codewords-clause-rows
returns-then-are_codewords-clause-rows g c =
    taken-answered (received_rows c.args.received.now) (marks_rows c.args.marks.now) c.answer_or_take_rows.new.answers c.answer_or_take_rows.ensures.answers_size
    (c.answer_or_take_rows.ensures.upper c.if-not-answer_or_take_rows.false) (c.answer_or_take_rows.ensures.taken c.if-not-answer_or_take_rows.false) (c.are_codewords.ensures c.if-are_codewords.true)

pub returns-then-are_codewords-clause-failed : goal.returns-then-are_codewords-clause-failed
returns-then-are_codewords-clause-failed g c =
    let taken = c.answer_or_take_rows.ensures.taken c.if-not-answer_or_take_rows.false in
    c.none.ensures ∙ sym (none-failed c.answer_or_take_rows.new.answers c.answer_or_take_rows.ensures.answers_size (λ i d below. (taken i d below).answered))

pub returns-then-are_codewords-clause-columns : goal.returns-then-are_codewords-clause-columns
returns-then-are_codewords-clause-columns g c =
    let answers = c.answer_or_take_rows.new.answers in
    let columns = c.mark_answered.new.columns in
    let size = c.answer_or_take_rows.ensures.answers_size in
    let columns_size : length columns ≡ 182 = omega (arith, c.mark_answered.ensures.size, c.answer_or_take_rows.ensures.size) in
    let taken = c.answer_or_take_rows.ensures.taken c.if-not-answer_or_take_rows.false in
    let few = ap marked (none-failed answers size (λ i d below. (taken i d below).answered)) ∙ marked-clear 208 in
    let own : AreOwnFrom answers 0 columns = record {
      are = λ k d within. c.mark_answered.ensures.bytes k d ∙ (c.answer_or_take_rows.ensures.own c.if-not-answer_or_take_rows.false).are k d (omega (arith, within, c.mark_answered.ensures.size));
    } in
    record {
      found = λ _. completed-answered answers columns columns_size
          (λ j below. codeword-completed answers j size (omega (arith, few)) (c.are_codewords.ensures c.if-are_codewords.true j below)) own c.mark_answered.ensures.answered;
      held = λ _. own-held answers columns size columns_size own;
    }

pub returns-clause-rows : goal.returns-clause-rows
returns-clause-rows g c =
    same-answers (received_rows c.args.received.now) (marks_rows c.args.marks.now) c.answer_parity_rows.new.answers c.answer_all_columns-2.new.answers c.answer_all_columns-2.ensures.same
    c.answer_parity_rows.ensures.rows
