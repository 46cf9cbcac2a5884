-- The proof of `transposed_rows` in src/columns.rt.
use Rattle.std.proofs.Common.{◌+◌, ◌∙◌, arith}
use Rattle.rs_lanes.proofs.ColumnLemmas.{get_or-column, length-column}
use Rattle.coding.specs.Product.{column}
use Rattle.dvd_read.proofs.ColumnAnswers.{row_read}
use Rattle.dvd_read.proofs.columns.transposed_rows.Goals as goal

pub returns-clause-rows : goal.returns-clause-rows
returns-clause-rows c = λ n below.
    let transposed = c.loop-j.transposed in
    row_read c.args.columns.now (c.args.top + n) (column transposed n) (omega arith) c.requires.columns (length-column transposed n ∙ c.loop-j.invariant.size)
    (λ k d inside. get_or-column transposed n k ∙ c.loop-j.invariant.set k n d (omega arith) below)
