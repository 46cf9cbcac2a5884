-- The proof of `kind` of `PlainCommand` for `Marking` in src/marking.rt.
use Rattle.std.proofs.Common.{◌≡◌, ◌*◌, length, refl, ap, subst, arith}
use Rattle.cap_mark.specs.Walk.{AgreeFrom}
use Rattle.dvd_loop.proofs.UnitLemmas.{err_is, sized_done, sized_short}
use Rattle.cap_mark.proofs.FrameLemmas.{done_by}
use Rattle.cap_mark.proofs.SpanLemmas.{agree_later}
use Rattle.cap_mark.proofs.marking.MarkingPlainCommand.process.Goals as goal

pub returns-in_err-read_unit-clause-processed : goal.returns-in_err-read_unit-clause-processed
returns-in_err-read_unit-clause-processed g c = λ before number.
    let size : length c.read_unit.new.unit ≡ 2366 = omega (arith, c.read_unit.auto.unit) in
    sized_short _ _ (λ k own. refl) c.args.k before number _ _ _ _ _ _ _ (err_is _ _ c.from_residual.ensures.1)
    (rw size at c.in_err-read_unit.ensures.short) (c.in_err-read_unit.ensures.causes _ _)

pub returns-clause-processed : goal.returns-clause-processed
returns-clause-processed g c = λ before number.
    let spans = c.args.self.now.spans.now in
    let left = c.spans_from-self.result.now in
    let same : 2366 * c.from-start.result ≡ 2366 * c.args.k = ap (λ n. 2366 * n) c.from-start.ensures in
    let agree = agree_later (2366 * c.from-start.result) (2366 * c.args.k) left c.passed.result.now spans (subst (λ p. AgreeFrom p left c.passed.result.now) same c.spans_from-self.ensures) c.passed.ensures (omega arith) in
    sized_done _ _ (λ k own. refl) c.args.k before number _ _ _ _ _ c.read_unit.new.unit (omega (arith, c.read_unit.auto.unit))
    c.in_ok-read_unit.ensures.whole (c.in_ok-read_unit.ensures.causes _ _) _ _ _
    (done_by left spans c.args.k c.read_unit.new.unit agree _ _ _ (c.write_frame.ensures (g.S.Source.seen c.read_unit.new.src) (g.E.Sink.seen c.args._report.now))) tt
