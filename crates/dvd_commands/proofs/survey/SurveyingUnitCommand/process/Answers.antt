-- The proof of `kind` of `UnitCommand` for `Surveying` in src/survey.rt.
use Rattle.std.proofs.Common.{◌≤◌, ◌<◌, length, refl, arith}
use Rattle.dvd_layout.specs.Plan.{plan_of}
use Rattle.dvd_loop.proofs.UnitLemmas.{err_is}
use Rattle.dvd_report.proofs.Answered.{blocks-counted}
use Rattle.dvd_commands.specs.Survey.{found_in}
use Rattle.dvd_commands.proofs.CapturedUnits.{captured_done, captured_short}
use Rattle.dvd_commands.proofs.PlanLengths.{plan-few}
use Rattle.dvd_commands.proofs.survey.Blocks.{length-found, line_done, next_stands}
use Rattle.dvd_commands.proofs.TwoSteps.{done_as}
use Rattle.dvd_commands.proofs.survey.SurveyingUnitCommand.process.Goals as goal

pub returns-in_err-fetch_block-clause-processed : goal.returns-in_err-fetch_block-clause-processed
returns-in_err-fetch_block-clause-processed g c = λ before number ready.
    captured_short _ c.args.self.now.form (λ k own. refl) c.args.k before number _ _ _ _ _ _ _ (err_is _ _ c.from_residual.ensures.1)
    c.in_err-fetch_block.ensures.ended (c.in_err-fetch_block.ensures.causes _ _)

pub survey_block-requires-clause-room : goal.survey_block-requires-clause-room
survey_block-requires-clause-room g c =
    let m = c.args.self.now in
    let before = c.requires.ready.0 in
    let number = c.requires.ready.1 in
    let within : c.args.k < length (plan_of m.blocks.layout m.blocks.zones) = c.requires.unit in
    let few : length before ≤ length (plan_of m.blocks.layout m.blocks.zones) = omega (arith, number, within) in
    let counted = blocks-counted m.survey.now (found_in m.blocks.layout m.blocks.zones m.form before) c.requires.ready.2.0 in
    let size = length-found m.blocks.layout m.blocks.zones m.form before few in
    let most = plan-few m.blocks.layout m.blocks.zones in
    omega (arith, counted, size, number, within, most)

pub returns-clause-processed : goal.returns-clause-processed
returns-clause-processed g c = λ before number ready.
    let m = c.args.self.now in
    let entry = c.at-entry.result in
    let is_there = c.at-entry.ensures.is_there in
    let fetched = c.in_ok-fetch_block.ensures.full in
    let found = found_in m.blocks.layout m.blocks.zones m.form before in
    captured_done _ m.form (λ k own. refl) c.args.k before number _ _ _ _ _ _ _ fetched (c.in_ok-fetch_block.ensures.causes _ _) _ _ _
    (done_as _ _ (line_done m.blocks.layout m.blocks.zones m.form c.args.k before number fetched.bytes entry is_there _ _ fetched.rows_are fetched.marks_are c.requires.unit)
    _ _ _ (c.survey_block.ensures.done (g.S.Source.seen c.fetch_block.new.src) (g.E.Sink.seen c.args._report.now) found ready.0)) (
      next_stands m.blocks.layout m.blocks.zones m.form c.args.k before number fetched.bytes entry is_there _ _ fetched.rows_are fetched.marks_are
          c.survey_block.new.survey (c.survey_block.ensures.survey found ready.0),
      ready.1,
    )
