-- The proof of `group_are_codewords` in src/rounds.rt.
use Rattle.std.proofs.Common.{◌+◌, ℕ, List}
use Rattle.coding.specs.Product.{line}
use Rattle.rs_decode.proofs.NearSearch.{codeword-vanishes, vanishing-codeword}
use Rattle.dvd_block.proofs.Tested.{codewords_tested}
use Rattle.dvd_deep.proofs.rounds.group_are_codewords.Goals as goal

pub returns : goal.returns
returns c =
    let said = c.row_values.ensures in
    let row : ℕ → List ℕ = λ n. line c.args.rows.now (c.args.top + n) in
    let tested = codewords_tested 182 10 row c.row_values.result c.any_of.result said.sizes said.bytes said.values c.any_of.ensures.zeros in (
      (λ yes n below. codeword-vanishes 182 10 (row n) (tested.0 (c.are_zeros.ensures.0 yes) n below)),
      (λ passes. c.are_zeros.ensures.1 (tested.1 (λ n below. vanishing-codeword 182 10 (row n) (said.sizes n below) (said.bytes n below) (passes n below)))),
    )
