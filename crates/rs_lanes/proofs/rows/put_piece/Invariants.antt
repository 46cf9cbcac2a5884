-- What each iteration of the loop in `put_piece` keeps.
use Rattle.std.proofs.Common.{◌+◌, ◌*◌, take}
use Rattle.coding.specs.Rows.{column}
use Rattle.rs_lanes.specs.Inner.Parity.{filled}
use Rattle.rs_lanes.specs.Inner.Thirds.{AreStored}
use Rattle.rs_lanes.proofs.rows.put_piece.Given as goal

-- where the places before the piece are stored, so are those before this one
abbrev pub invariant-loop-q : goal.invariant-loop-q
invariant-loop-q l = AreStored 73 (λ n. filled 182 (take l.count (column l.transposed n))) (17 * l.piece) l.initial.thirds
    → AreStored 73 (λ n. filled 182 (take l.count (column l.transposed n))) (17 * l.piece + l.q) l.thirds
