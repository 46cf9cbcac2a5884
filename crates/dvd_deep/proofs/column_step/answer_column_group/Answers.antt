-- The proof of `answer_column_group` in src/column_step.rt.
use Rattle.std.proofs.Common.{◌≡◌, ◌≢◌, ◌∙◌, ◌+◌, ◌-◌, ◌<◌, ℕ, Bool, List, length, length-set, map, is_some, sym, ap, subst, arith}
use Rattle.std.proofs.lemmas.List.{map-id}
use Rattle.coding.specs.Field.{alpha, power}
use Rattle.coding.specs.Product.{column, place}
use Rattle.coding.specs.Words.{value}
use Rattle.dvd_block.proofs.Columns.{length-column}
use Rattle.dvd_capture.specs.Parts.{marks_of_rows}
use Rattle.dvd_deep.specs.Inner.Steps.{IsColumnPut, column_then}
use Rattle.dvd_deep.specs.Rounds.{column_near, state_in}
use Rattle.dvd_deep.proofs.ColumnStep.{columns-next, next-near, same-column, told-next}
use Rattle.dvd_deep.proofs.column_step.answer_column_group.Goals as goal

-- a column that isn't answered yet is as it was
untouched : (old rows : List (List ℕ)) (at j : ℕ) → length old ≡ 208 → length rows ≡ 208 → at < 182 → at ≡ j → ((i : ℕ) → i < 208 → place rows i j ≡ place old i j)
    → column (map (λ row. row) old) at ≡ column rows j
untouched old rows at j height rows_height below is same =
    ap (λ l. column l at) (map-id old) ∙ ap (column old) is ∙ sym (same-column rows old j rows_height height same)

pub answer_column-requires-clause-values : goal.answer_column-requires-clause-values
answer_column-requires-clause-values c = λ k below.
    let left : ℕ = c.min-left.result in
    let n : ℕ = c.loop-j.j - left in
    let inside : n < 32 = omega arith in
    let own = untouched c.args.rows.now c.loop-j.rows (left + n) c.loop-j.j c.told-rows c.loop-j.invariant.height (omega arith) (omega arith)
    (λ i i_below. c.loop-j.invariant.left i c.loop-j.j i_below (omega arith) (omega arith)) in
    c.new-group.ensures k n below inside ∙ c.column_values-values.ensures.values k n below inside ∙ ap (λ word. value word (power alpha k)) own

pub answer_column-requires-clause-completes : goal.answer_column-requires-clause-completes
answer_column-requires-clause-completes c =
    let left : ℕ = c.min-left.result in
    let n : ℕ = c.loop-j.j - left in
    let inside : n < 32 = omega arith in
    let own = untouched c.args.rows.now c.loop-j.rows (left + n) c.loop-j.j c.told-rows c.loop-j.invariant.height (omega arith) (omega arith)
    (λ i i_below. c.loop-j.invariant.left i c.loop-j.j i_below (omega arith) (omega arith)) in
    c.patches-patches.ensures n (column c.loop-j.rows c.loop-j.j) inside (length-column c.loop-j.rows c.loop-j.j ∙ c.loop-j.invariant.height)
    (λ k below. c.column_values-values.ensures.values k n below inside ∙ ap (λ word. value word (power alpha k)) own)

pub loop-j-preserved : goal.loop-j-preserved
loop-j-preserved c =
    let failed : List Bool = c.args.tries.now.failed.now in
    let rows : List (List ℕ) = c.loop-j.rows in
    let own : List (List Bool) = marks_of_rows c.args.tries.now.marks.now in
    let before = c.loop-j.invariant in
    let answer = c.answer_column.ensures in
    record {
      height = c.answer_column.array_long;
      size = length-set c.loop-j.answered c.loop-j.j c.answer_column.result ∙ before.size;
      wide = answer.wide;
      left = λ i k below from inside.
          let other : k ≢ c.loop-j.j = λ equal. omega (arith, equal) in
          answer.column.others i k below inside other ∙ before.left i k below (omega arith) inside;
      stepped = λ state height marks_are start.
          columns-next failed state rows c.answer_column.new.rows c.loop-j.j height before.height (omega arith)
          (subst (λ (marks : List (List Bool)). IsColumnPut c.loop-j.j (column_then failed (state_in rows marks) c.loop-j.j) rows c.answer_column.new.rows) (sym marks_are) answer.column)
          answer.wide (before.stepped state height marks_are start);
      told = λ state height marks_are start said.
          let next = next-near failed state rows c.loop-j.j height before.height (omega arith) (before.stepped state height marks_are start) in
          told-next failed state c.loop-j.answered c.loop-j.j c.answer_column.result before.size (omega arith)
          (answer.answered ∙ ap (λ (marks : List (List Bool)). is_some (column_near failed (state_in rows marks) c.loop-j.j)) (sym marks_are) ∙ ap is_some next.1)
          (before.told state height marks_are start said);
    }
