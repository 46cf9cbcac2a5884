-- What each iteration of the loop in `load_tile` keeps.
use Rattle.std.proofs.Common.{map}
use Rattle.rs_lanes.proofs.Tiles.{HasPairs}
use Rattle.rs_lanes.proofs.transposing.load_tile.Given as goal

-- k vectors have their two rows
abbrev pub invariant-loop-k : goal.invariant-loop-k
invariant-loop-k g l = HasPairs (map g.T.Row.word l.rows) l.top l.at l.k l.tile
