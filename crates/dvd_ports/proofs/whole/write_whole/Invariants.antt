-- What each iteration of the loop in `write_whole` keeps, and why it ends.
use Rattle.std.proofs.Common.{length, ◌-◌}
use Rattle.dvd_ports.specs.Bytes.{Appends}
use Rattle.dvd_ports.proofs.Moving.{HasMoved}
use Rattle.dvd_ports.proofs.whole.write_whole.Given as goal

abbrev pub invariant-loop-written : goal.invariant-loop-written
invariant-loop-written g l = HasMoved Appends (g.K.Sink.seen l.fn.out) (g.K.Sink.seen l.out) l.written l.buf

abbrev pub decreases-loop-written : goal.decreases-loop-written
decreases-loop-written g l = length l.buf - l.written
