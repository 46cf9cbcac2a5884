-- The proof of `run_survey` in src/survey.rt.
use Rattle.dvd_words.specs.declared.table.Command.TheVariants.{Survey}
use Rattle.dvd_commands.proofs.opening.HeaderTaken.{looped_no_further, looped_over}
use Rattle.dvd_commands.proofs.survey.run_survey.Goals as goal

pub returns-in-Ok-clause-performed : goal.returns-in-Ok-clause-performed
returns-in-Ok-clause-performed g c = λ report.
    let stated = c.in-Ok.stated.settings in
    let layout = c.in-Ok.stated.layout in
    let e = c.in-Ok.ensures in
    looped_over Survey c.args.start.now.settings.now stated layout c.requires.command (λ unbroken. unbroken) _ _ _ _ _ c.survey_loop.result e.begun (e.causes _ _)
    layout e.layout (c.survey_loop.ensures.follows report)

pub returns-clause-performed : goal.returns-clause-performed
returns-clause-performed g c = λ report. looped_no_further c.args.start.now.settings.now _ _ _ _ c.in-Err.end c.in-Err.ensures.ended (c.in-Err.ensures.causes _ _)
