-- The proof of `run_recover` in src/recover.rt.
use Rattle.dvd_words.specs.declared.table.Command.TheVariants.{Recover}
use Rattle.dvd_commands.proofs.opening.HeaderTaken.{looped_no_further, looped_over}
use Rattle.dvd_commands.proofs.recover.run_recover.Goals as goal

pub returns-in-Ok-clause-performed : goal.returns-in-Ok-clause-performed
returns-in-Ok-clause-performed g c =
    let stated = c.in-Ok.stated.settings in
    let layout = c.in-Ok.stated.layout in
    let e = c.in-Ok.ensures in
    looped_over Recover c.args.start.now.settings.now stated layout c.requires.command (λ unbroken. unbroken) _ _ _ _ _ c.recover_loop.result e.begun (e.causes _ _)
    layout e.layout c.recover_loop.ensures.follows

pub returns-clause-performed : goal.returns-clause-performed
returns-clause-performed g c = looped_no_further c.args.start.now.settings.now _ _ _ _ c.in-Err.end c.in-Err.ensures.ended (c.in-Err.ensures.causes _ _)
