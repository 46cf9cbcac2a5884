-- What each iteration of the loop in `read_report` keeps, and what it has left: a report has fewer than 2 ^ 33 lines.
use Rattle.std.proofs.Common.{◌+◌, ◌-◌, ◌*◌, ◌^◌, length}
use Rattle.cap_lost.specs.Inner.{HasCome}
use Rattle.cap_lost.proofs.report.read_report.Given as goal

abbrev pub invariant-loop-reader : goal.invariant-loop-reader
invariant-loop-reader g l = HasCome l.fn.layout l.fn.zones (g.S.Source.seen l.initial.src) (g.S.Source.seen l.src) l.reader

abbrev pub decreases-loop-reader : goal.decreases-loop-reader
decreases-loop-reader g l = 129 * 2 ^ 33 - (129 * l.reader.number + length l.reader.line.items)
