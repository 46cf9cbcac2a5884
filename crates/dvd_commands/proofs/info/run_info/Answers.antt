-- The proof of `run_info` in src/info.rt.
use Rattle.std.proofs.Common.{subst}
use Rattle.dvd_commands.specs.Inner.Opened.{IsWordedInitial}
use Rattle.dvd_words.specs.declared.table.Command.TheVariants.{Info}
use Rattle.dvd_commands.proofs.opening.HeaderTaken.{gone_over, looped_by_words, looped_listed}
use Rattle.dvd_commands.proofs.info.run_info.Goals as goal

pub returns-in-Some-clause-performed : goal.returns-in-Some-clause-performed
returns-in-Some-clause-performed g c = λ report.
    let settings = c.args.start.now.settings.now in
    let worded = subst (IsWordedInitial settings) c.in-Some.is c.in_ok-worded.ensures.worded in
    looped_by_words settings worded.0 _ _ c.info_loop.result
    (gone_over Info settings c.requires worded.2 tt tt
    _ _ c.info_loop.result (c.info_loop.ensures.follows report))

pub returns-clause-performed : goal.returns-clause-performed
returns-clause-performed g c = λ report.
    let settings = c.args.start.now.settings.now in
    looped_listed settings (subst (IsWordedInitial settings) c.in-None.is c.in_ok-worded.ensures.worded) _ _ c.info_listed.result (c.info_listed.ensures report)
