-- The proof of `written_before` in src/closing.rt.
use Rattle.std.proofs.Common.{◌∙◌, arith}
use Rattle.cap_lost.proofs.WrittenBefore.{all_at, first_at, passed}
use Rattle.cap_lost.proofs.closing.written_before.Goals as goal

pub returns-in-Some : goal.returns-in-Some
returns-in-Some c =
    first_at c.args.layout.now c.args.zones c.loop-later.later c.in-Some.first c.plan-plan.result c.plan-plan.ensures c.in-Some.ensures.some ∙ c.loop-later.invariant

pub loop-later-preserved : goal.loop-later-preserved
loop-later-preserved c =
    passed c.args.layout.now c.args.zones c.loop-later.later c.plan-plan.result c.plan-plan.ensures c.in-None.ensures.none ∙ c.loop-later.invariant

pub returns : goal.returns
returns c = c.total.ensures ∙ all_at c.args.layout.now c.args.zones c.loop-later.later (omega (arith, c.loop-later-test.false, c.blocks-later-end.ensures)) ∙ c.loop-later.invariant
