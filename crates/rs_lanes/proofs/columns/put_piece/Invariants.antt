-- What each iteration of the loop in `put_piece` keeps.
use Rattle.std.proofs.Common.{◌+◌, ◌*◌, map}
use Rattle.coding.specs.Rows.{column}
use Rattle.rs_lanes.specs.Inner.Parity.{filled}
use Rattle.rs_lanes.specs.Inner.Thirds.{AreStored}
use Rattle.rs_lanes.proofs.columns.put_piece.Given as goal

-- where the places before the piece are stored, so are those before this one
abbrev pub invariant-loop-q : goal.invariant-loop-q
invariant-loop-q g l = AreStored 47 (λ j. filled 208 (column (map g.T.Row.word l.rows) (l.at + j))) (17 * l.piece) l.initial.thirds
    → AreStored 47 (λ j. filled 208 (column (map g.T.Row.word l.rows) (l.at + j))) (17 * l.piece + l.q) l.thirds
