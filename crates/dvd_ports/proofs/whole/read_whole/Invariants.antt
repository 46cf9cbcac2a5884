-- What each iteration of the loop in `read_whole` keeps, and why it ends.
use Rattle.std.proofs.Common.{length, ◌-◌}
use Rattle.dvd_ports.specs.Bytes.{Consumes}
use Rattle.dvd_ports.proofs.Moving.{HasMoved}
use Rattle.dvd_ports.proofs.whole.read_whole.Given as goal

abbrev pub invariant-loop-filled : goal.invariant-loop-filled
invariant-loop-filled g l = HasMoved Consumes (g.S.Source.seen l.fn.src) (g.S.Source.seen l.src) l.filled l.buf

abbrev pub decreases-loop-filled : goal.decreases-loop-filled
decreases-loop-filled g l = length l.buf - l.filled
