-- The proof of `info_listed` in src/info.rt.
use Rattle.dvd_commands.specs.Commands.{GoesOver}
use Rattle.dvd_words.specs.declared.table.Command.TheVariants.{Info}
use Rattle.dvd_commands.proofs.opening.HeaderTaken.{opened_ended, opened_over}
use Rattle.dvd_commands.proofs.info.info_listed.Goals as goal

pub returns-in-Ok : goal.returns-in-Ok
returns-in-Ok g c = λ report.
    let stated = c.in-Ok.stated.settings in
    let layout = c.in-Ok.stated.layout in
    let e = c.in-Ok.ensures in
    opened_over Info c.args.settings.now stated layout c.requires _ _ _ _ _ _ e.opened (e.causes _ _)
    tt tt (c.info_loop.ensures.follows report)

pub returns-in-Err : goal.returns-in-Err
returns-in-Err g c = λ report. opened_ended GoesOver c.args.settings.now _ _ _ _ c.in-Err.end c.in-Err.ensures.ended (c.in-Err.ensures.causes _ _)
