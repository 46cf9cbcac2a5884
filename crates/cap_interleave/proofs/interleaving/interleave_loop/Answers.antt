-- The proof of `interleave_loop` in src/interleaving.rt.
use Rattle.std.proofs.Common.{subst, arith}
use Rattle.cap_interleave.specs.Inner.{task_of}
use Rattle.cap_interleave.proofs.LoopLemmas.{IsAfter, begins, finishes, long, next}
use Rattle.cap_interleave.proofs.interleaving.interleave_loop.Goals as goal

pub loop-k-init : goal.loop-k-init
loop-k-init g c = begins g.S.Source.seen c.args.buffers.now c.args.captures.now (g.K.Sink.seen c.args.out.now) c.requires.fresh c.requires.count

pub returns-in-Err : goal.returns-in-Err
returns-in-Err g c =
    finishes g.S.Source.seen (task_of c.args.buffers.now) c.loop-k.k c.loop-k.buffers c.interleave_unit.new.buffers c.args.captures.now c.loop-k.captures c.interleave_unit.new.captures
    (g.K.Sink.seen c.args.out.now) (g.K.Sink.seen c.loop-k.out) (g.K.Sink.seen c.interleave_unit.new.out) c.in-Err.end c.loop-k.invariant (omega (arith, c.loop-k-test.true)) c.in-Err.ensures

pub loop-k-preserved : goal.loop-k-preserved
loop-k-preserved g c =
    next g.S.Source.seen (task_of c.args.buffers.now) c.loop-k.k c.loop-k.buffers c.interleave_unit.new.buffers c.args.captures.now c.loop-k.captures c.interleave_unit.new.captures
    (g.K.Sink.seen c.args.out.now) (g.K.Sink.seen c.loop-k.out) c.loop-k.invariant c.in_default.ensures.0 (g.K.Sink.seen c.interleave_unit.new.out)
    c.in_default.ensures.1 c.in_default.ensures.2 c.in_default.ensures.3

pub returns : goal.returns
returns g c =
    long g.S.Source.seen (task_of c.args.buffers.now) c.loop-k.buffers c.args.captures.now c.loop-k.captures (g.K.Sink.seen c.args.out.now) (g.K.Sink.seen c.loop-k.out)
    (subst (λ k. IsAfter g.S.Source.seen (task_of c.args.buffers.now) k c.loop-k.buffers c.args.captures.now c.loop-k.captures (g.K.Sink.seen c.args.out.now) (g.K.Sink.seen c.loop-k.out))
    (omega (arith, c.loop-k-test.false, c.loop-k.auto.k-end)) c.loop-k.invariant)
