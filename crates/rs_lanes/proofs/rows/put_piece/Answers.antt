-- The proof of `put_piece` in src/rows.rt.
use Rattle.std.proofs.Common.{◌+◌, ◌-◌, ◌*◌, take, arith}
use Rattle.coding.specs.Rows.{column}
use Rattle.rs_lanes.specs.Inner.Parity.{filled}
use Rattle.rs_lanes.proofs.ParityLemmas.{lane_filled}
use Rattle.rs_lanes.proofs.ThirdLemmas.{thirds_more}
use Rattle.rs_lanes.proofs.rows.put_piece.Goals as goal

pub loop-q-preserved : goal.loop-q-preserved
loop-q-preserved c = λ stored.
    let transposed = c.args.transposed.now in
    let count = c.args.count in
    thirds_more 73 (λ n. filled 182 (take count (column transposed n))) (17 * c.args.piece + c.loop-q.q) (17 * c.args.piece + (c.loop-q.q + 1)) (2 * (4 - c.args.piece))
    c.loop-q.thirds c.padded.result c.padded-in-loop-q.result c.padded-in-loop-q-2.result c.rotated_thirds.result
    (omega (arith, c.requires.piece)) (omega arith) (omega (arith, c.requires.piece)) (λ n. lane_filled transposed count n (omega arith) c.requires.count) (c.loop-q.invariant stored)
    c.padded.ensures c.padded-in-loop-q.ensures c.padded-in-loop-q-2.ensures c.rotated_thirds.ensures.bytes c.rotated_thirds.ensures.thirds
