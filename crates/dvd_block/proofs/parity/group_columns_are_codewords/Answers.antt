-- The proof of `group_columns_are_codewords` in src/parity.rt.
use Rattle.std.proofs.Common.{◌+◌, ◌∙◌, All, ap, subst}
use Rattle.std.proofs.lemmas.List.{map-id}
use Rattle.coding.specs.Field.{alpha, power}
use Rattle.coding.specs.Words.{IsByte, value}
use Rattle.coding.specs.Product.{column}
use Rattle.dvd_block.proofs.Columns.{length-column}
use Rattle.dvd_block.proofs.Tested.{codewords_tested}
use Rattle.dvd_block.proofs.parity.group_columns_are_codewords.Goals as goal

pub returns : goal.returns
returns c =
    let rows = c.args.rows.now in
    let whole = map-id rows in
    let tested = codewords_tested 208 16 (λ n. column rows (c.args.at + n)) c.column_values.result c.any_of.result
    (λ n below. length-column rows (c.args.at + n) ∙ c.requires.rows)
    (λ n below. subst (λ all. All IsByte (column all (c.args.at + n))) whole (c.column_values.ensures.bytes n below))
    (λ k n few below. c.column_values.ensures.values k n few below ∙ ap (λ all. value (column all (c.args.at + n)) (power alpha k)) whole)
    c.any_of.ensures.zeros in
    ((λ yes. tested.0 (c.are_zeros.ensures.0 yes)), (λ codewords. c.are_zeros.ensures.1 (tested.1 codewords)))
