-- The proof of `close` of `UnitCommand` for `Surveying` in src/survey.rt.
use Rattle.std.proofs.Common.{[], ◌∷◌, refl, subst, sym}
use Rattle.dvd_loop.specs.Machine.Step.{Write}
use Rattle.dvd_loop.specs.Streams.{streams}
use Rattle.dvd_loop.specs.UnitCommand.{AreSteps}
use Rattle.dvd_loop.specs.declared.ends.LoopEnd.TheVariants.{WriteFault}
use Rattle.dvd_loop.proofs.UnitLemmas.{err_is, step_begun}
use Rattle.dvd_report.specs.Survey.{totals_line}
use Rattle.dvd_commands.specs.Survey.{found_in}
use Rattle.dvd_commands.proofs.survey.SurveyingUnitCommand.close.Goals as goal

pub returns-in_err-write_totals-clause-closes : goal.returns-in_err-write_totals-clause-closes
returns-in_err-write_totals-clause-closes g c = λ source before number ready.
    let m = c.args.self.now in
    let line = totals_line (found_in m.blocks.layout m.blocks.zones m.form before) in
    let output = g.K.Sink.seen c.args.out.now in
    let new_output = g.K.Sink.seen c.write_totals.new.out in
    let report = g.E.Sink.seen c.args._report.now in
    let answer = c.from_residual.result in (
      Write line ∷ [],
      refl,
      subst (AreSteps (Write line ∷ []) (streams source output report) (streams source new_output report)) (sym (err_is answer WriteFault c.from_residual.ensures.1))
          (step_begun source output new_output report line [] (c.in_err-write_totals.ensures.begun (found_in m.blocks.layout m.blocks.zones m.form before) ready.0)),
    )
