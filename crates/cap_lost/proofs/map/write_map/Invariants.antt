-- What each iteration of the loop in `write_map` keeps, and what it has left.
use Rattle.std.proofs.Common.{length}
use Rattle.cap_lost.specs.Inner.{IsUnwritten}
use Rattle.cap_lost.specs.Map.{lines_from, map_text}
use Rattle.cap_lost.proofs.map.write_map.Given as goal

abbrev pub invariant-loop-rest : goal.invariant-loop-rest
invariant-loop-rest g l = IsUnwritten (map_text l.lost.extents.items l.lost.written l.total) (lines_from l.at l.rest l.lost.written l.total) (g.K.Sink.seen l.fn.out) (g.K.Sink.seen l.out)

abbrev pub decreases-loop-rest : goal.decreases-loop-rest
decreases-loop-rest g l = length l.rest
