-- The proof of `read_column` in src/column_step.rt.
use Rattle.std.proofs.Common.{◌≡◌, ◌∙◌, ◌<◌, ℕ, List, length, sym, arith}
use Rattle.std.proofs.lemmas.Grind.{same_number_lists}
use Rattle.coding.specs.Product.{column}
use Rattle.dvd_block.proofs.Columns.{get_or-column, length-column}
use Rattle.dvd_deep.proofs.column_step.read_column.Goals as goal

pub returns : goal.returns
returns c =
    let rows : List (List ℕ) = c.args.rows.now in
    let height : length rows ≡ 208 = c.told-rows in
    same_number_lists c.loop-i.word (column rows c.args.j) (c.loop-i.invariant.size ∙ sym (length-column rows c.args.j ∙ height))
    (λ k within.
    let below : k < 208 = omega (arith, c.loop-i.invariant.size) in
    c.loop-i.invariant.read k (omega arith) ∙ sym (get_or-column rows c.args.j k))
