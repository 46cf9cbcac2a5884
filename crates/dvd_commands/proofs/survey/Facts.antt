-- What the laws of runs rest on of `survey`.
use Rattle.std.proofs.Common.{length, refl}
use Rattle.dvd_commands.specs.Survey.{survey_units}
use Rattle.dvd_commands.proofs.OneRun.{one_closing}
use Rattle.dvd_commands.proofs.RunFacts.{RunFacts, facts_of_captured}
use Rattle.dvd_commands.proofs.survey.Done.{surveyed_is_one, surveyed_some}
use Rattle.dvd_words.specs.declared.table.Command.TheVariants.{Survey}

pub facts : RunFacts Survey
facts =
    facts_of_captured survey_units (λ layout zones form k own. refl)
    (λ layout zones form before own. surveyed_is_one layout zones form (length before) before own) (λ layout zones form before. one_closing)
    (λ layout zones form before own. surveyed_some layout zones form before own) (λ layout zones form before all. (_, refl))
