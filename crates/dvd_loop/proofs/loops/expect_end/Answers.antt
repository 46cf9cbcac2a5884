-- The proof of `expect_end` in src/loops.rt.
use Rattle.std.proofs.Common.{◌≡◌, zero, suc, ℕ, take, refl, ap, sym, subst, ◌≢◌, arith}
use Rattle.dvd_loop.specs.Machine.{EndsAfterLast, end_by, ended}
use Rattle.dvd_loop.specs.Streams.{HaveReached, streams}
use Rattle.dvd_loop.specs.declared.ends.LoopEnd.TheVariants.{Damaged, Done, Long, NoControl, ReadFault}
use Rattle.dvd_loop.proofs.EndLemmas.{asked_end, asked_fault, asked_long, not_asked}
use Rattle.dvd_loop.proofs.loops.expect_end.Goals as goal

pub returns-in-Done-clause-comes : goal.returns-in-Done-clause-comes
returns-in-Done-clause-comes g c = λ output report.
    not_asked c.args.after_last c.args.bad (streams (g.S.Source.seen c.args.src.now) output report) Done
    (λ left. subst (λ b. EndsAfterLast b c.args.bad left (ended Done)) (sym c.in-Done.is) refl)

pub returns-in-NoControl-clause-comes : goal.returns-in-NoControl-clause-comes
returns-in-NoControl-clause-comes g c = λ output report.
    not_asked c.args.after_last c.args.bad (streams (g.S.Source.seen c.args.src.now) output report) NoControl
    (λ left. subst (λ b. EndsAfterLast b c.args.bad left (ended NoControl)) (sym c.in-NoControl.is) refl)

pub returns-in-Ok-eq0-clause-comes : goal.returns-in-Ok-eq0-clause-comes
returns-in-Ok-eq0-clause-comes g c = λ output report.
    let source = g.S.Source.seen c.args.src.now in
    let new = g.S.Source.seen c.read_whole.new.src in
    subst (λ b. HaveReached (EndsAfterLast b c.args.bad) (streams source output report) (streams new output report) Done) (sym c.in-EndOfInput.is)
    (asked_end c.args.bad source new output report (take c.in-Ok-eq0.field-0 c.read_whole.new.buf) c.in-Ok-eq0.ensures.taken Done (omega (arith, c.in-Ok-eq0.ensures.bound))
    (c.in-Ok-eq0.ensures.end (omega (arith, c.read_whole.auto.buf))) (ap end_by (sym c.if-bad-eq0.true)))

-- a loop that found damaged units ends as Damaged with their number
damaged : (bad : ℕ) → bad ≢ 0 → Damaged bad ≡ end_by bad
damaged zero some = absurd (some refl)
damaged (suc bad) some = refl

pub returns-in-Ok-eq0-2-clause-comes : goal.returns-in-Ok-eq0-2-clause-comes
returns-in-Ok-eq0-2-clause-comes g c = λ output report.
    let source = g.S.Source.seen c.args.src.now in
    let new = g.S.Source.seen c.read_whole.new.src in
    subst (λ b. HaveReached (EndsAfterLast b c.args.bad) (streams source output report) (streams new output report) (Damaged c.args.bad)) (sym c.in-EndOfInput.is)
    (asked_end c.args.bad source new output report (take c.in-Ok-eq0.field-0 c.read_whole.new.buf) c.in-Ok-eq0.ensures.taken (Damaged c.args.bad) (omega (arith, c.in-Ok-eq0.ensures.bound))
    (c.in-Ok-eq0.ensures.end (omega (arith, c.read_whole.auto.buf))) (damaged c.args.bad c.if-bad-eq0.false))

pub returns-in-Ok-clause-comes : goal.returns-in-Ok-clause-comes
returns-in-Ok-clause-comes g c = λ output report.
    let source = g.S.Source.seen c.args.src.now in
    let new = g.S.Source.seen c.read_whole.new.src in
    subst (λ b. HaveReached (EndsAfterLast b c.args.bad) (streams source output report) (streams new output report) Long) (sym c.in-EndOfInput.is)
    (asked_long c.args.bad source new output report (take c.in-Ok.field-0 c.read_whole.new.buf) c.in-Ok.ensures.taken (omega (arith, c.in-Ok.ensures.bound, c.in-Ok.field-0-test.1, c.read_whole.auto.buf)))

pub returns-in-Err-clause-comes : goal.returns-in-Err-clause-comes
returns-in-Err-clause-comes g c = λ output report.
    let source = g.S.Source.seen c.args.src.now in
    let new = g.S.Source.seen c.read_whole.new.src in
    let begun = c.in-Err.ensures.begun in
    subst (λ b. HaveReached (EndsAfterLast b c.args.bad) (streams source output report) (streams new output report) ReadFault) (sym c.in-EndOfInput.is)
    (asked_fault c.args.bad source new output report begun.taken begun.loses (omega (arith, begun.fewer, c.read_whole.auto.buf)))
