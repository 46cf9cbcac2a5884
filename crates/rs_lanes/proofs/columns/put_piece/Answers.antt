-- The proof of `put_piece` in src/columns.rt.
use Rattle.std.proofs.Common.{◌+◌, ◌-◌, ◌*◌, map, arith}
use Rattle.coding.specs.Rows.{column}
use Rattle.rs_lanes.specs.Inner.Parity.{filled}
use Rattle.rs_lanes.proofs.ParityLemmas.{column_filled}
use Rattle.rs_lanes.proofs.ThirdLemmas.{thirds_more}
use Rattle.rs_lanes.proofs.columns.put_piece.Goals as goal

pub loop-q-preserved : goal.loop-q-preserved
loop-q-preserved g c = λ stored.
    let rows = map g.T.Row.word c.args.rows.now in
    thirds_more 47 (λ j. filled 208 (column rows (c.args.at + j))) (17 * c.args.piece + c.loop-q.q) (17 * c.args.piece + (c.loop-q.q + 1)) (2 * (4 - c.args.piece))
    c.loop-q.thirds c.padded.result c.padded-in-loop-q.result c.padded-in-loop-q-2.result c.rotated_thirds.result
    (omega (arith, c.requires.piece)) (omega arith) (omega (arith, c.requires.piece)) (λ j. column_filled g.T.Row.word c.args.rows.now (c.args.at + j) (omega (arith, c.requires))) (c.loop-q.invariant stored)
    c.padded.ensures c.padded-in-loop-q.ensures c.padded-in-loop-q-2.ensures c.rotated_thirds.ensures.bytes c.rotated_thirds.ensures.thirds
