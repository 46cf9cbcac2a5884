-- What each iteration of the loop in `interleave_loop` keeps.
use Rattle.cap_interleave.specs.Inner.{task_of}
use Rattle.cap_interleave.proofs.LoopLemmas.{IsAfter}
use Rattle.cap_interleave.proofs.interleaving.interleave_loop.Given as goal

abbrev pub invariant-loop-k : goal.invariant-loop-k
invariant-loop-k g l = IsAfter g.S.Source.seen (task_of l.fn.buffers) l.k l.buffers l.fn.captures l.captures (g.K.Sink.seen l.fn.out) (g.K.Sink.seen l.out)
