-- The proof of `group_rows_are_codewords` in src/parity.rt.
use Rattle.std.proofs.Common.{◌+◌}
use Rattle.coding.specs.Product.{line}
use Rattle.dvd_block.proofs.Tested.{codewords_tested}
use Rattle.dvd_block.proofs.parity.group_rows_are_codewords.Goals as goal

pub returns : goal.returns
returns c =
    let tested = codewords_tested 182 10 (λ n. line c.args.rows.now (c.args.top + n)) c.row_values.result c.any_of.result
    c.row_values.ensures.sizes
    c.row_values.ensures.bytes
    c.row_values.ensures.values
    c.any_of.ensures.zeros in
    ((λ yes. tested.0 (c.are_zeros.ensures.0 yes)), (λ codewords. c.are_zeros.ensures.1 (tested.1 codewords)))
