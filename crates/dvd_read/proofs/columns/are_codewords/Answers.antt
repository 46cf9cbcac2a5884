-- The proof of `are_codewords` in src/columns.rt.
use Rattle.std.proofs.Common.{◌+◌, ℕ, arith, sym, ◌∙◌}
use Rattle.coding.specs.Product.{column}
use Rattle.coding.specs.Words.{IsCodeword}
use Rattle.rs_lanes.proofs.ColumnLemmas.{group_more}
use Rattle.dvd_read.specs.Parts.{answer_bytes}
use Rattle.dvd_read.proofs.MarkedColumns.{column_vanishes}
use Rattle.dvd_read.proofs.columns.are_codewords.Goals as goal

pub loop-group-preserved : goal.loop-group-preserved
loop-group-preserved c = λ j below inside.
    let answers = c.args.answers.now in
    group_more (λ (m : ℕ). IsCodeword 208 16 (column (answer_bytes answers) m)) c.min.result
    (λ m under. c.loop-group.invariant m (omega arith) (omega arith))
    (λ n under.
    column_vanishes answers (c.min.result + n) c.requires (c.column_values_by-values.ensures.bytes n under)
    (λ k few. sym (c.column_values_by-values.ensures.values k n few under) ∙ (c.any_of.ensures.zeros n under).0 (c.are_zeros.ensures.0 c.if-not-are_zeros.false n under) k few))
    j (omega arith)
