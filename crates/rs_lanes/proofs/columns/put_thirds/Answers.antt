-- The proof of `put_thirds` in src/columns.rt.
use Rattle.std.proofs.Common.{◌+◌, map, arith}
use Rattle.coding.specs.Rows.{column}
use Rattle.rs_lanes.specs.Inner.Parity.{filled}
use Rattle.rs_lanes.specs.Inner.Thirds.{AreStored}
use Rattle.rs_lanes.proofs.ParityLemmas.{filled-bytes, column_short, column_filled}
use Rattle.rs_lanes.proofs.ThirdLemmas.{none_stored, thirds_bytes, thirds_told}
use Rattle.rs_lanes.proofs.columns.put_thirds.Given.{Over}
use Rattle.rs_lanes.proofs.columns.put_thirds.Goals.{After-put_piece-5}
use Rattle.rs_lanes.proofs.columns.put_thirds.Goals as goal

-- after five pieces all places are stored
stored : (g : Over) (c : After-put_piece-5 g) → AreStored 47 (λ j. filled 208 (column (map g.T.Row.word c.args.rows.now) (c.args.at + j))) 85 c.put_piece-5.new.thirds
stored g c = c.put_piece-5.ensures (c.put_piece-4.ensures (c.put_piece-3.ensures (c.put_piece-2.ensures (c.put_piece.ensures (none_stored 47 _ c.args.thirds.now (omega arith))))))

pub returns-clause-bytes : goal.returns-clause-bytes
returns-clause-bytes g c = λ j below.
    let rows = map g.T.Row.word c.args.rows.now in
    filled-bytes 208 (column rows (c.args.at + j)) (column_short g.T.Row.word c.args.rows.now (c.args.at + j) (omega (arith, c.requires)))
    (thirds_bytes 47 (λ i. filled 208 (column rows (c.args.at + i))) c.put_piece-5.new.thirds j (column_filled g.T.Row.word c.args.rows.now (c.args.at + j) (omega (arith, c.requires))) (stored g c) below)

pub returns-clause-thirds : goal.returns-clause-thirds
returns-clause-thirds g c = λ i j third below.
    let rows = map g.T.Row.word c.args.rows.now in
    thirds_told 47 (λ m. filled 208 (column rows (c.args.at + m))) c.put_piece-5.new.thirds i j (column_filled g.T.Row.word c.args.rows.now (c.args.at + j) (omega (arith, c.requires))) (stored g c) third below
