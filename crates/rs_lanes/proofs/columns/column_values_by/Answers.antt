-- The proof of `column_values_by` in src/columns.rt.
use Rattle.std.proofs.Common.{◌≡◌, ◌%◌, ◌+◌, length, map, refl, ap, ◌∙◌, arith}
use Rattle.std.proofs.lemmas.List.{length-map}
use Rattle.coding.specs.Field.{alpha, power}
use Rattle.coding.specs.Words.{value}
use Rattle.coding.specs.Rows.{column}
use Rattle.rs_lanes.proofs.ColumnLemmas.{length-column}
use Rattle.rs_lanes.proofs.ParityLemmas.{filled-whole}
use Rattle.rs_lanes.proofs.columns.column_values_by.Goals as goal

pub returns-clause-lanes : goal.returns-clause-lanes
returns-clause-lanes g c = λ k inside. (c.values_of.ensures k (omega arith)).size

pub returns-clause-values : goal.returns-clause-values
returns-clause-values g c = λ k j few below.
    let word = column (map g.T.Row.word c.args.rows.now) (c.args.at + j) in
    let size : length word ≡ 208 = length-column (map g.T.Row.word c.args.rows.now) (c.args.at + j) ∙ length-map c.args.rows.now g.T.Row.word ∙ c.requires.rows in
    (c.values_of.ensures k few).each j below
    ∙ (c.put_thirds.ensures.thirds (k % 3) j (omega arith) below).values k refl
    ∙ ap (λ xs. value xs (power alpha k)) (filled-whole 208 word size)
