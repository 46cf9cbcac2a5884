-- The proof of `answer_row_group` in src/row_step.rt.
use Rattle.std.proofs.Common.{◌≡◌, ◌≢◌, ◌∙◌, ◌+◌, ◌-◌, ◌<◌, ℕ, true, [], length, cond, set, sym, ap, arith}
use Rattle.std.proofs.lemmas.List.{get_or-set_other, length-map}
use Rattle.coding.specs.Product.{line}
use Rattle.dvd_capture.specs.Parts.{marks_of_row, marks_of_rows}
use Rattle.dvd_read.specs.declared.failed.FailedRows.{FailedRows}
use Rattle.dvd_deep.proofs.RowStep.{stepped-next}
use Rattle.dvd_deep.proofs.row_step.answer_row_group.Goals as goal
use Rattle.dvd_deep.proofs.row_step.answer_row_group.Goals.{then-not-answer_row, else-not-answer_row}

-- the flags are those of before, with row `i` where it isn't answered
noted : (c : goal.Joined-not-answer_row) → c.if-not-answer_row.failed.marks ≡ cond c.answer_row.result c.loop-i.failed.marks (set c.loop-i.failed.marks c.loop-i.i true)
noted c = elim c.if-not-answer_row.branch [
  | then-not-answer_row w ↦
      ap (λ (failed : FailedRows). failed.marks) w.failed-is ∙ w.note.ensures
      ∙ sym (ap (λ b. cond b c.loop-i.failed.marks (set c.loop-i.failed.marks c.loop-i.i true)) w.if-not-answer_row.true)
  | else-not-answer_row w ↦
      ap (λ (failed : FailedRows). failed.marks) w.failed-is
      ∙ sym (ap (λ b. cond b c.loop-i.failed.marks (set c.loop-i.failed.marks c.loop-i.i true)) w.if-not-answer_row.false)
]

pub answer_row-requires-clause-width : goal.answer_row-requires-clause-width
answer_row-requires-clause-width c =
    let n : ℕ = c.loop-i.i - c.min-top.result in
    let at : c.min-top.result + n ≡ c.loop-i.i = omega arith in
    let below : n < 32 = omega arith in
    ap length (c.loop-i.invariant.left c.loop-i.i (omega arith)) ∙ ap (λ i. length (line c.args.rows.now i)) (sym at) ∙ c.row_values-values.ensures.sizes n below

pub loop-i-preserved : goal.loop-i-preserved
loop-i-preserved c = record {
  height = c.answer_row.array_long;
  marks_height = c.answer_row.array_long2;
  left = λ k from.
      let other : k ≢ c.loop-i.i = λ equal. omega (arith, equal) in
      ap (λ rows. line rows k) c.answer_row.ensures.row ∙ get_or-set_other c.loop-i.rows c.loop-i.i k _ [] other ∙ c.loop-i.invariant.left k (omega arith);
  stepped = λ state part.
      stepped-next state c.loop-i.rows c.answer_row.new.rows (marks_of_rows c.loop-i.marks) (marks_of_rows c.answer_row.new.marks) c.loop-i.failed.marks c.if-not-answer_row.failed.marks c.loop-i.i
      c.answer_row.result (omega arith) (omega (arith, length-map c.loop-i.marks marks_of_row)) (omega (arith, c.loop-i.failed.size)) c.answer_row.ensures.answered c.answer_row.ensures.row
      c.answer_row.ensures.wide c.answer_row.ensures.marks (noted c) (c.loop-i.invariant.stepped state part);
}
