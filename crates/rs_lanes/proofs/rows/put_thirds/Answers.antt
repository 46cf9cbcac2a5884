-- The proof of `put_thirds` in src/rows.rt.
use Rattle.std.proofs.Common.{take, arith}
use Rattle.coding.specs.Rows.{column}
use Rattle.rs_lanes.specs.Inner.Parity.{filled}
use Rattle.rs_lanes.specs.Inner.Thirds.{AreStored}
use Rattle.rs_lanes.proofs.ParityLemmas.{filled-bytes, lane_short, lane_filled}
use Rattle.rs_lanes.proofs.ThirdLemmas.{none_stored, thirds_bytes, thirds_told}
use Rattle.rs_lanes.proofs.rows.put_thirds.Goals.{After-put_piece-5}
use Rattle.rs_lanes.proofs.rows.put_thirds.Goals as goal

-- after five pieces all places are stored
stored : (c : After-put_piece-5) → AreStored 73 (λ n. filled 182 (take c.args.count (column c.args.transposed.now n))) 85 c.put_piece-5.new.thirds
stored c = c.put_piece-5.ensures (c.put_piece-4.ensures (c.put_piece-3.ensures (c.put_piece-2.ensures (c.put_piece.ensures (none_stored 73 _ c.args.thirds.now (omega arith))))))

pub returns-clause-bytes : goal.returns-clause-bytes
returns-clause-bytes c = λ n below.
    let transposed = c.args.transposed.now in
    let count = c.args.count in
    filled-bytes 182 (take count (column transposed n)) (lane_short transposed count n (omega arith) c.requires)
    (thirds_bytes 73 (λ m. filled 182 (take count (column transposed m))) c.put_piece-5.new.thirds n (lane_filled transposed count n (omega arith) c.requires) (stored c) below)

pub returns-clause-thirds : goal.returns-clause-thirds
returns-clause-thirds c = λ i n third below.
    let transposed = c.args.transposed.now in
    let count = c.args.count in
    thirds_told 73 (λ m. filled 182 (take count (column transposed m))) c.put_piece-5.new.thirds i n (lane_filled transposed count n (omega arith) c.requires) (stored c) third below
