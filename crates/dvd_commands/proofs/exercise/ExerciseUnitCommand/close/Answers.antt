-- The proof of `close` of `UnitCommand` for `Exercise` in src/exercise.rt.
use Rattle.std.proofs.Common.{◌∙◌, [], ◌∷◌, sym, subst}
use Rattle.dvd_loop.specs.Machine.Step.{Write}
use Rattle.dvd_loop.specs.Streams.{streams}
use Rattle.dvd_loop.specs.UnitCommand.{AreSteps}
use Rattle.dvd_loop.specs.declared.ends.LoopEnd.TheVariants.{WriteFault}
use Rattle.dvd_loop.proofs.UnitLemmas.{err_is, step_begun, step_written}
use Rattle.dvd_commands.proofs.exercise.Trials.{exercised, last_left}
use Rattle.dvd_commands.proofs.exercise.ExerciseUnitCommand.close.Goals as goal

pub returns-in_err-write_whole-clause-closes : goal.returns-in_err-write_whole-clause-closes
returns-in_err-write_whole-clause-closes g c = λ source before all ready.
    let output = g.K.Sink.seen c.args.out.now in
    let new_output = g.K.Sink.seen c.write_whole.new.out in
    let report = g.E.Sink.seen c.args._report.now in
    let bytes = c.as_slice.result.now in
    let answer = c.from_residual.result in (
      Write bytes ∷ [],
      exercised _ _ _ _ _ _ bytes all ready.0 (c.as_slice.ensures.bytes ∙ c.exercise_line-line.ensures),
      subst (AreSteps (Write bytes ∷ []) (streams source output report) (streams source new_output report)) (sym (err_is answer WriteFault c.from_residual.ensures.1))
          (step_begun source output new_output report bytes [] c.in_err-write_whole.ensures.begun),
    )

pub returns-in_err-write_whole-clause-left : goal.returns-in_err-write_whole-clause-left
returns-in_err-write_whole-clause-left g c = λ before all ready end. last_left _ _ _ _ _ _ c.args.self.now.some all ready.0

pub returns-clause-closes : goal.returns-clause-closes
returns-clause-closes g c = λ source before all ready.
    let bytes = c.as_slice.result.now in (
      Write bytes ∷ [],
      exercised _ _ _ _ _ _ bytes all ready.0 (c.as_slice.ensures.bytes ∙ c.exercise_line-line.ensures),
      step_written source (g.K.Sink.seen c.args.out.now) (g.K.Sink.seen c.write_whole.new.out) (g.E.Sink.seen c.args._report.now) bytes c.in_ok-write_whole.ensures.written,
    )

pub returns-clause-left : goal.returns-clause-left
returns-clause-left g c = λ before all ready end. last_left _ _ _ _ _ _ c.args.self.now.some all ready.0
