-- The proof of `columns_are_codewords` in src/parity.rt.
use Rattle.std.proofs.Common.{ℕ, arith}
use Rattle.coding.specs.Words.{IsCodeword}
use Rattle.coding.specs.Product.{column}
use Rattle.rs_lanes.proofs.ColumnLemmas.{group_more}
use Rattle.dvd_block.proofs.parity.columns_are_codewords.Goals as goal

pub loop-group-preserved : goal.loop-group-preserved
loop-group-preserved c = λ j below inside.
    group_more (λ (k : ℕ). IsCodeword 208 16 (column c.args.rows.now k)) c.min.result
    (λ k under. c.loop-group.invariant k (omega arith) (omega arith))
    (c.group_columns_are_codewords.ensures.0 c.if-not-group_columns_are_codewords.false) j (omega arith)
