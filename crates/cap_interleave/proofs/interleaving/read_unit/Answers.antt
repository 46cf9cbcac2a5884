-- The proof of `read_unit` in src/interleaving.rt.
use Rattle.std.proofs.Common.{◌<◌, sym, subst, arith, length, slice_index_or}
use Rattle.std.proofs.lemmas.List.{get_or_default}
use Rattle.cap_interleave.specs.Inner.{AreReadTo}
use Rattle.cap_interleave.proofs.ReadLemmas.{none_read, one_broken, one_read}
use Rattle.cap_interleave.proofs.interleaving.read_unit.Goals as goal

pub loop-c-init : goal.loop-c-init
loop-c-init g c =
    subst (λ b. AreReadTo g.S.Source.seen 0 c.args.buffers.now b c.args.captures.now c.args.captures.now) (sym c.clear.ensures)
    (none_read g.S.Source.seen c.args.buffers.now c.args.captures.now)

pub returns-in-Err-clause-broken : goal.returns-in-Err-clause-broken
returns-in-Err-clause-broken g c =
    let inside : c.loop-c.c < length c.args.captures.now = omega (arith, c.loop-c-test.true, c.loop-c.invariant.captures) in
    one_broken g.S.Source.seen c.loop-c.c c.args.buffers.now c.loop-c.buffers c.args.captures.now c.loop-c.captures c.read.new.src c.loop-c.invariant inside
    (slice_index_or c.loop-c.captures c.loop-c.c c.index-captures-c.result) c.in-Err.ensures.broken.0
    (λ d. get_or_default c.loop-c.captures c.loop-c.c d c.index-captures-c.result (omega (arith, inside, c.loop-c.invariant.captures))) c.in-Err.ensures.broken.1

pub loop-c-preserved : goal.loop-c-preserved
loop-c-preserved g c =
    let inside : c.loop-c.c < length c.args.captures.now = omega (arith, c.loop-c-test.true, c.loop-c.invariant.captures) in
    one_read g.S.Source.seen c.loop-c.c c.args.buffers.now c.loop-c.buffers c.args.captures.now c.loop-c.captures c.read.new.src c.loop-c.invariant inside
    c.read.new.self (slice_index_or c.loop-c.captures c.loop-c.c c.index-captures-c.result)
    (λ d. get_or_default c.loop-c.captures c.loop-c.c d c.index-captures-c.result (omega (arith, inside, c.loop-c.invariant.captures)))
    (omega (arith, inside, c.requires.count)) c.in-Ok.ensures.read
