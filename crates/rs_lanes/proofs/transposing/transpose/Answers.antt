-- The proof of `transpose` in src/transposing.rt.
use Rattle.std.proofs.Common.{◌*◌, map, arith}
use Rattle.rs_lanes.proofs.Tiles.{places_more}
use Rattle.rs_lanes.proofs.transposing.transpose.Goals as goal

pub loop-tile-preserved : goal.loop-tile-preserved
loop-tile-preserved g c =
    let put = c.put_tile.ensures in
    let loaded = c.load_transposed.ensures in
    let more = places_more (map g.T.Row.word c.args.rows.now) c.args.top (16 * c.loop-tile.tile) c.loop-tile.transposed c.put_tile.new.transposed c.load_transposed.result put.below put.set
    (record { lanes = c.loop-tile.invariant.lanes; set = c.loop-tile.invariant.set })
    (λ k below. loaded.lanes k (omega arith)) loaded.transposed in
    record {
      size = put.size;
      lanes = λ k below. more.lanes k (omega arith);
      set = λ k n below. more.set k n (omega arith);
    }

pub returns-clause-lanes : goal.returns-clause-lanes
returns-clause-lanes g c = λ k below.
    let put = c.put_tile-2.ensures in
    let loaded = c.load_transposed-2.ensures in
    let before = c.loop-tile.invariant in
    (places_more (map g.T.Row.word c.args.rows.now) c.args.top 166 c.loop-tile.transposed c.put_tile-2.new.transposed c.load_transposed-2.result put.below put.set
    (record { lanes = λ i under. before.lanes i (omega arith); set = λ i n under. before.set i n (omega arith) })
    (λ i under. loaded.lanes i (omega arith)) loaded.transposed).lanes k (omega arith)

pub returns-clause-transposed : goal.returns-clause-transposed
returns-clause-transposed g c = λ k n below.
    let put = c.put_tile-2.ensures in
    let loaded = c.load_transposed-2.ensures in
    let before = c.loop-tile.invariant in
    (places_more (map g.T.Row.word c.args.rows.now) c.args.top 166 c.loop-tile.transposed c.put_tile-2.new.transposed c.load_transposed-2.result put.below put.set
    (record { lanes = λ i under. before.lanes i (omega arith); set = λ i m under. before.set i m (omega arith) })
    (λ i under. loaded.lanes i (omega arith)) loaded.transposed).set k n (omega arith)
