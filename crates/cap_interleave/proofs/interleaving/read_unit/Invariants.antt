-- What each iteration of the loop in `read_unit` keeps.
use Rattle.cap_interleave.specs.Inner.{AreReadTo}
use Rattle.cap_interleave.proofs.interleaving.read_unit.Given as goal

abbrev pub invariant-loop-c : goal.invariant-loop-c
invariant-loop-c g l = AreReadTo g.S.Source.seen l.c l.fn.buffers l.buffers l.fn.captures l.captures
