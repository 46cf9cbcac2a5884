-- The proof of `outer_parity` in src/columns.rt.
use Rattle.std.proofs.Common.{◌*◌, ◌++◌, arith}
use Rattle.coding.specs.Words.{IsEncoded}
use Rattle.coding.specs.Rows.{column}
use Rattle.rs_lanes.proofs.ColumnLemmas.{group_more}
use Rattle.rs_lanes.proofs.ParityLemmas.{encoded_kept}
use Rattle.rs_lanes.proofs.columns.outer_parity.Goals as goal

pub loop-group-preserved : goal.loop-group-preserved
loop-group-preserved c =
    let rows = c.args.rows.now in
    let before = c.loop-group.parity in
    let after = c.put_parity.new.parity in
    let at = 32 * c.loop-group.group in
    record {
      size = c.put_parity.ensures.size;
      encoded = λ j below.
          group_more (λ i. IsEncoded 208 16 (column rows i) (column rows i ++ column after i)) at
          (λ i under. encoded_kept rows before after i (omega arith) (λ k. c.put_parity.ensures.below k i under) (c.loop-group.invariant.encoded i under))
          c.put_parity.ensures.encoded j (omega arith);
    }

pub returns-clause-encoded : goal.returns-clause-encoded
returns-clause-encoded c = λ j below.
    let rows = c.args.rows.now in
    let before = c.loop-group.parity in
    let after = c.put_parity-2.new.parity in
    group_more (λ i. IsEncoded 208 16 (column rows i) (column rows i ++ column after i)) 150
    (λ i under. encoded_kept rows before after i (omega arith) (λ k. c.put_parity-2.ensures.below k i under) (c.loop-group.invariant.encoded i (omega arith)))
    c.put_parity-2.ensures.encoded j (omega arith)
