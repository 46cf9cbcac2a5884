-- The proof of `load_tile` in src/transposing.rt.
use Rattle.std.proofs.Common.{◌≡◌, ◌+◌, map, subst, arith}
use Rattle.rs_lanes.proofs.RowLemmas.{row_taken}
use Rattle.rs_lanes.proofs.Tiles.{HasPairs, pairs_more, pairs_wide}
use Rattle.rs_lanes.proofs.transposing.load_tile.Goals as goal

pub loop-k-preserved : goal.loop-k-preserved
loop-k-preserved g c =
    let word = g.T.Row.word in
    let rows = c.args.rows.now in
    let k = c.loop-k.k in
    let pair = c.pair_at.ensures in
    pairs_more (map word rows) c.args.top c.args.at k c.loop-k.tile c.row.result.now c.row-in-loop-k.result.now c.pair_at.result
    (omega arith) c.loop-k.invariant
    (row_taken word rows (c.args.top + k) c.index-rows-top.result c.row.result.now (omega arith) c.index-rows-top.is c.row.ensures) pair.one_size
    (row_taken word rows (c.args.top + 16 + k) c.index-rows-top-in-loop-k.result c.row-in-loop-k.result.now (omega arith) c.index-rows-top-in-loop-k.is c.row-in-loop-k.ensures)
    pair.other_size pair.size pair.one pair.other

pub returns-clause-sizes : goal.returns-clause-sizes
returns-clause-sizes g c =
    let done : c.loop-k.k ≡ 16 = omega arith in
    pairs_wide (map g.T.Row.word c.args.rows.now) c.args.top c.args.at c.loop-k.tile
    (subst (λ k. HasPairs (map g.T.Row.word c.args.rows.now) c.args.top c.args.at k c.loop-k.tile) done c.loop-k.invariant)
