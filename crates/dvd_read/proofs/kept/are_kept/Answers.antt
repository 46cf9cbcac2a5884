-- The proof of `are_kept` in src/kept.rt.
use Rattle.std.proofs.Common.{◌≡◌, ℕ, false, get_or, arith}
use Rattle.rs_lanes.proofs.ColumnLemmas.{group_more}
use Rattle.dvd_read.specs.Inner.Standing.{IsRowKept}
use Rattle.dvd_read.proofs.kept.are_kept.Goals as goal

pub loop-group-preserved : goal.loop-group-preserved
loop-group-preserved c = λ i below inside.
    group_more (λ (k : ℕ). get_or c.args.failed.now k false ≡ false → IsRowKept c.args.answers.now c.args.columns.now k 0 182) c.min.result
    (λ k under. c.loop-group.invariant k (omega arith) (omega arith))
    (c.are_rows_kept.ensures.0 c.if-not-are_rows_kept.false) i (omega arith)
