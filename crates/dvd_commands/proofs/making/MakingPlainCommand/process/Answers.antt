-- The proof of `kind` of `PlainCommand` for `Making` in src/making.rt.
use Rattle.std.proofs.Common.{length, refl, arith}
use Rattle.dvd_loop.proofs.UnitLemmas.{buffer_short, err_is, sized_done}
use Rattle.dvd_commands.proofs.making.MakingPlainCommand.process.Goals as goal

pub returns-in_err-read_unit-clause-processed : goal.returns-in_err-read_unit-clause-processed
returns-in_err-read_unit-clause-processed g c = λ before number.
    buffer_short _ _ (λ k own. refl) c.args.k before number _ _ _ _ _ _ _ (err_is _ _ c.from_residual.ensures.1)
    (length c.read_unit.new.unit) (omega (arith, c.read_unit.auto.unit)) c.in_err-read_unit.ensures.short (c.in_err-read_unit.ensures.causes _ _)

pub returns-clause-processed : goal.returns-clause-processed
returns-clause-processed g c = λ before number.
    sized_done _ _ (λ k own. refl) c.args.k before number _ _ _ _ _ c.read_unit.new.unit (omega (arith, c.read_unit.auto.unit))
    c.in_ok-read_unit.ensures.whole (c.in_ok-read_unit.ensures.causes _ _) _ _ _
    (c.write_made.ensures (g.S.Source.seen c.read_unit.new.src) (g.E.Sink.seen c.args._report.now)) tt
