-- The proof of `run_master` in src/master.rt.
use Rattle.std.proofs.Common.{refl}
use Rattle.dvd_words.specs.declared.table.Command.TheVariants.{Master}
use Rattle.dvd_commands.proofs.opening.HeaderTaken.{gone_over}
use Rattle.dvd_commands.proofs.master.run_master.Goals as goal

pub returns-clause-performed : goal.returns-clause-performed
returns-clause-performed g c = λ report.
    gone_over Master c.args.start.now.settings.now c.requires.command (c.in_ok-layout.ensures.valid refl) c.in_ok-layout.layout c.in_ok-layout.ensures.lengths
    _ _ c.master_loop.result (c.master_loop.ensures.follows report)
