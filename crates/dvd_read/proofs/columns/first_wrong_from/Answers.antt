-- The proof of `first_wrong_from` in src/columns.rt.
use Rattle.std.proofs.Common.{◌≡◌, ◌∙◌, ◌+◌, ◌<◌, ℕ, true, false, List, get_or, sym, ap, subst, inl, inr, arith}
use Rattle.std.proofs.lemmas.Bool.{cases_eq}
use Rattle.std.proofs.lemmas.List.{get_or_read_under}
use Rattle.coding.specs.Nearest.{vanishes_at_all}
use Rattle.rs_lanes.proofs.ColumnLemmas.{length-column}
use Rattle.coding.specs.Product.{column, line}
use Rattle.coding.specs.TwoPass.{from_columns}
use Rattle.dvd_read.specs.Inner.Found.{words_of_columns}
use Rattle.dvd_read.proofs.LaneValues.{others-fail, zeros-pass}
use Rattle.dvd_read.proofs.columns.first_wrong_from.Goals as goal

pub returns-then-index-ne0 : goal.returns-then-index-ne0
returns-then-index-ne0 c =
    let n = c.loop-n.n in
    let transposed = c.transposed_rows.result in
    let wrong = c.any_of-wrong.result in
    let inside : n < 32 = omega arith in
    let lane = get_or_read_under wrong n 32 c.index.result.now 0 c.index.ensures inside (sym c.any_of-wrong.ensures.size) in
    let fails : vanishes_at_all 10 (column transposed n) ≡ false =
    others-fail (column transposed n) (length-column transposed n ∙ c.transposed_rows.ensures.size) (c.transposed_values.ensures.bytes n inside)
    (λ zeros.
    c.if-index-ne0.true (lane ∙ (c.any_of-wrong.ensures.zeros n inside).1 (λ k below. c.transposed_values.ensures.values k n below inside ∙ zeros k below))) in (
      omega arith,
      omega arith,
      (λ k below. c.loop-n.invariant k (omega arith)),
      subst (λ (row : List ℕ). vanishes_at_all 10 row ≡ false) (c.transposed_rows.ensures.rows n inside) fails,
    )

pub loop-n-preserved : goal.loop-n-preserved
loop-n-preserved c =
    let n = c.loop-n.n in
    let transposed = c.transposed_rows.result in
    let wrong = c.any_of-wrong.result in
    let inside : n < 32 = omega arith in
    let zero_is : get_or wrong n 0 ≡ 0 =
    sym (get_or_read_under wrong n 32 c.index.result.now 0 c.index.ensures inside (sym c.any_of-wrong.ensures.size)) ∙ c.if-index-ne0.false in
    let passes : vanishes_at_all 10 (column transposed n) ≡ true =
    zeros-pass (column transposed n) (length-column transposed n ∙ c.transposed_rows.ensures.size) (c.transposed_values.ensures.bytes n inside)
    (λ k below. sym (c.transposed_values.ensures.values k n below inside) ∙ (c.any_of-wrong.ensures.zeros n inside).0 zero_is k below) in
    let here = subst (λ (row : List ℕ). vanishes_at_all 10 row ≡ true) (c.transposed_rows.ensures.rows n inside) passes in
    λ k below.
    elim (cases_eq k n) [
      | inl last ↦ ap (λ m. vanishes_at_all 10 (line (from_columns (words_of_columns c.args.columns.now)) (c.args.top + m))) last ∙ here
      | inr not_last ↦ c.loop-n.invariant k (omega (arith, not_last, below))
    ]
