-- The proof of `run_exercise` in src/exercise.rt.
use Rattle.std.proofs.Common.{refl}
use Rattle.dvd_words.specs.declared.table.Command.TheVariants.{Exercise}
use Rattle.dvd_commands.proofs.opening.HeaderTaken.{gone_over}
use Rattle.dvd_commands.proofs.exercise.run_exercise.Goals as goal

pub returns-clause-performed : goal.returns-clause-performed
returns-clause-performed g c = λ report.
    let settings = c.args.start.now.settings.now in
    gone_over Exercise settings c.requires.command refl tt tt
    _ _ c.run_trials.result (c.run_trials.ensures.follows report)
