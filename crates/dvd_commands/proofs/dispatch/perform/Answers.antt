-- The proof of `perform` in src/dispatch.rt.
use Rattle.std.proofs.Common.{◌≡◌, ◌∙◌, Ok, Err, false, refl, subst, sym, true}
use Rattle.std.specs.Prelude.{Result}
use Rattle.dvd_capture.specs.Captured.{HasSize}
use Rattle.dvd_loop.specs.Streams.{Streams, streams}
use Rattle.dvd_loop.specs.declared.ends.LoopEnd.{LoopEnd}
use Rattle.dvd_ports.specs.Seen.{Seen}
use Rattle.dvd_commands.specs.Performed.{BesideAnyReport, HasGoneOver, HasLooped, IsPerformed, IsPerformedByWords}
use Rattle.dvd_commands.specs.declared.refusal.Refusal.{Refusal}
use Rattle.dvd_commands.specs.declared.refusal.Refusal.TheVariants.{NoMemory, Setting}
use Rattle.dvd_words.specs.Reading.{IsValid, takes_listed}
use Rattle.dvd_words.specs.declared.table.Command.{Command}
use Rattle.dvd_words.specs.declared.table.Command.TheVariants.{CdMake, CdRead, Convert, Exercise, Frames, Master, Merge}
use Rattle.dvd_words.specs.declared.settings.Settings.{Settings}
use Rattle.dvd_commands.proofs.opening.HeaderTaken.{breaks_by_words, gone_over, looped_by_words}
use Rattle.dvd_commands.proofs.dispatch.perform.Goals as goal

-- a command that reads no listed captures is given no such form
sized : (settings : Settings) (command : Command) → IsValid settings → settings.command ≡ command → takes_listed command ≡ false → HasSize settings.form
sized settings command valid is not listed =
    let takes : takes_listed command ≡ true = subst (λ c. takes_listed c ≡ true) is (valid.listed listed) in
    let no : false ≡ true = sym not ∙ takes in cc

-- a command without a layout, which has gone over its units, has run;
alone : (command : Command) (settings : Settings) → IsValid settings → settings.command ≡ command → takes_listed command ≡ false
    → (old new : Streams) (end : LoopEnd) → HasGoneOver settings old new end → HasLooped settings old new end
alone command settings valid is not old new end gone = looped_by_words settings (sized settings command valid is not) old new end gone

-- and what a command did by its words alone is what it did
by_words : (command : Command) (settings : Settings) → IsValid settings → settings.command ≡ command → takes_listed command ≡ false
    → (old new : Streams) (answer : Result LoopEnd Refusal) → IsPerformedByWords settings old new answer → IsPerformed settings old new answer
by_words command settings valid is not old new (Ok end) gone = alone command settings valid is not old new end gone
by_words command settings valid is not old new (Err (Setting fault)) breaks =
    breaks_by_words settings.form (sized settings command valid is not) settings ∙ breaks
by_words command settings valid is not old new (Err NoMemory) unbroken =
    breaks_by_words settings.form (sized settings command valid is not) settings ∙ unbroken

-- so it is beside any report, where the command writes none
unreported : (command : Command) (settings : Settings) → IsValid settings → settings.command ≡ command → takes_listed command ≡ false
    → (source output new_source new_output report : Seen) (answer : Result LoopEnd Refusal)
    → BesideAnyReport (IsPerformedByWords settings) source output new_source new_output answer
    → IsPerformed settings (streams source output report) (streams new_source new_output report) answer
unreported command settings valid is not source output new_source new_output report answer did =
    by_words command settings valid is not _ _ answer (did report)

pub returns-in-Frames-clause-performed : goal.returns-in-Frames-clause-performed
returns-in-Frames-clause-performed g c = alone Frames c.args.settings.now c.requires c.in-Frames.is refl _ _ c.frames_loop.result
    (gone_over Frames c.args.settings.now c.in-Frames.is refl tt tt _ _ c.frames_loop.result
    (c.frames_loop.ensures.follows (g.E.Sink.seen c.args.report.now)))

pub returns-in-CdMake-clause-performed : goal.returns-in-CdMake-clause-performed
returns-in-CdMake-clause-performed g c = alone CdMake c.args.settings.now c.requires c.in-CdMake.is refl _ _ c.cdmake_loop.result
    (gone_over CdMake c.args.settings.now c.in-CdMake.is refl tt tt _ _ c.cdmake_loop.result
    (c.cdmake_loop.ensures.follows (g.E.Sink.seen c.args.report.now)))

pub returns-in-CdRead-clause-performed : goal.returns-in-CdRead-clause-performed
returns-in-CdRead-clause-performed g c = alone CdRead c.args.settings.now c.requires c.in-CdRead.is refl _ _ c.cdread_loop.result
    (gone_over CdRead c.args.settings.now c.in-CdRead.is refl tt tt _ _ c.cdread_loop.result c.cdread_loop.ensures.follows)

pub returns-in-Master-clause-performed : goal.returns-in-Master-clause-performed
returns-in-Master-clause-performed g c = unreported Master _ c.requires c.in-Master.is refl _ _ _ _ _ c.run_master.result c.run_master.ensures.performed

pub returns-in-Merge-clause-performed : goal.returns-in-Merge-clause-performed
returns-in-Merge-clause-performed g c = unreported Merge _ c.requires c.in-Merge.is refl _ _ _ _ _ c.run_merge.result c.run_merge.ensures.performed

pub returns-in-Exercise-clause-performed : goal.returns-in-Exercise-clause-performed
returns-in-Exercise-clause-performed g c = unreported Exercise _ c.requires c.in-Exercise.is refl _ _ _ _ _ c.run_exercise.result c.run_exercise.ensures.performed

pub returns-in-Convert-clause-performed : goal.returns-in-Convert-clause-performed
returns-in-Convert-clause-performed g c = unreported Convert _ c.requires c.in-Convert.is refl _ _ _ _ _ c.run_convert.result c.run_convert.ensures.performed

pub returns-in-Survey-clause-performed : goal.returns-in-Survey-clause-performed
returns-in-Survey-clause-performed g c = c.run_survey.ensures.performed (g.E.Sink.seen c.args.report.now)

pub returns-in-Info-clause-performed : goal.returns-in-Info-clause-performed
returns-in-Info-clause-performed g c = c.run_info.ensures.performed (g.E.Sink.seen c.args.report.now)
