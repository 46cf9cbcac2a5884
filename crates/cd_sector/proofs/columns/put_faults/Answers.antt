-- The proof of `put_faults` in src/columns.rt.
use Rattle.std.proofs.Common.{ℕ, ◌+◌, List, sym, ◌∙◌, arith}
use Rattle.coding.specs.Rows.{column}
use Rattle.rs_lanes.proofs.ColumnLemmas.{length-column}
use Rattle.cd_sector.proofs.ColumnWords.{codeword_by_values, zero_values, both_zero}
use Rattle.cd_sector.proofs.columns.put_faults.Goals as goal

pub returns-clause-set : goal.returns-clause-set
returns-clause-set g c = λ j below.
    let rows = c.args.rows.now in
    let word : List ℕ = column rows (c.args.at + j) in
    let is = c.store.ensures.set j below in
    let says = c.any_of.ensures.zeros j below in
    let values = c.values_at.ensures in (
      λ zero_is.
          let none = says.0 (sym is ∙ zero_is) in
          codeword_by_values _ word (length-column rows (c.args.at + j)) (values.bytes j below)
          (sym (values.sums.each j below) ∙ none 0 (omega arith)) (sym (values.values.each j below) ∙ none 1 (omega arith)),
      λ codeword.
          let zeros = zero_values _ word codeword in
          is ∙ says.1 (both_zero c.values_at.result j (values.sums.each j below ∙ zeros.0) (values.values.each j below ∙ zeros.1)),
    )

pub returns-clause-below : goal.returns-clause-below
returns-clause-below g c = c.store.ensures.below
