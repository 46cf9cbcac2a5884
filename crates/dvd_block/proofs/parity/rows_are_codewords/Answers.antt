-- The proof of `rows_are_codewords` in src/parity.rt.
use Rattle.std.proofs.Common.{ℕ, refl, [], subst, arith}
use Rattle.std.proofs.lemmas.List.{get_or_default}
use Rattle.coding.specs.Words.{IsCodeword}
use Rattle.coding.specs.Product.{line}
use Rattle.rs_lanes.proofs.ColumnLemmas.{group_more}
use Rattle.dvd_block.proofs.parity.rows_are_codewords.Goals as goal

pub loop-group-preserved : goal.loop-group-preserved
loop-group-preserved c = λ i below inside.
    group_more (λ (k : ℕ). IsCodeword 182 10 (line c.args.rows.now k)) c.min.result
    (λ k under. c.loop-group.invariant k (omega arith) (omega arith))
    (c.group_rows_are_codewords.ensures.0 c.if-not-group_rows_are_codewords.false) i (omega arith)

pub returns : goal.returns
returns c = (
  (λ yes i d below. subst (IsCodeword 182 10) (get_or_default c.args.rows.now i [] d below) (c.loop-group.invariant i (omega arith) (omega arith))),
  (λ codewords. refl),
)
