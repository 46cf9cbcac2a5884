-- What the laws of runs rest on of `exercise`.
use Rattle.std.proofs.Common.{◌∙◌, [], refl, sym}
use Rattle.dvd_loop.specs.Machine.{Units}
use Rattle.dvd_loop.specs.declared.ends.UnitKind.TheVariants.{Good}
use Rattle.dvd_commands.specs.Exercise.{exercise_units}
use Rattle.dvd_commands.proofs.RunFacts.{RunFacts, facts_by_settings}
use Rattle.dvd_commands.proofs.exercise.Runs.{exercised_is_one, exercised_some}
use Rattle.dvd_words.specs.declared.table.Command.TheVariants.{Exercise}
use Rattle.dvd_words.specs.declared.settings.Settings.{Settings}

-- its units, by its settings
abbrev blocks : Settings → Units
blocks settings = exercise_units settings.seed settings.blocks

pub facts : RunFacts Exercise
facts =
    facts_by_settings blocks 0 (λ workers settings bytes outcome runs. runs) (λ settings k own. refl)
    (λ settings before own steps others kind other x y. (x.0 ∙ sym y.0, x.1 ∙ sym y.1)) (λ settings before. exercised_is_one settings.seed settings.blocks)
    (λ settings needs before own lt is. ([], Good, (refl, refl))) (λ settings before all. exercised_some settings.seed settings.blocks)
