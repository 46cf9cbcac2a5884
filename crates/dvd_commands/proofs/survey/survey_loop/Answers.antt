-- The proof of `survey_loop` in src/survey.rt.
use Rattle.std.proofs.Common.{refl}
use Rattle.dvd_loop.proofs.LoopEnds.{never_told}
use Rattle.dvd_loop.proofs.Silent.{beside, one_write}
use Rattle.dvd_commands.specs.Survey.{survey_units}
use Rattle.dvd_commands.proofs.CaptureEnds.{capture_end}
use Rattle.dvd_commands.proofs.survey.survey_loop.Goals as goal

pub returns-clause-follows : goal.returns-clause-follows
returns-clause-follows g c = λ report.
    let settings = c.args.settings.now in
    beside (survey_units c.args.layout.now settings.zones settings.form)
    (record {
      opens = tt;
      does = λ k before own steps kind done. one_write steps _ done.writes;
      closes = λ before steps closes. one_write steps _ closes;
    })
    _ _ _ _ report c.run_owned.result c.run_owned.ensures

pub returns-clause-ends : goal.returns-clause-ends
returns-clause-ends g c =
    let f = c.run_owned.ensures.comes in
    let settings = c.args.settings.now in
    capture_end settings.form (survey_units c.args.layout.now settings.zones settings.form) (λ k own. refl) f.bytes f.outcome f.holds refl c.run_owned.result f.ends

pub returns-clause-no_report : goal.returns-clause-no_report
returns-clause-no_report g c = never_told _ _ c.run_owned.result c.run_owned.ensures.causes.report
