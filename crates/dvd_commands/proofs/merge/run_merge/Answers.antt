-- The proof of `run_merge` in src/merge.rt.
use Rattle.std.proofs.Common.{refl}
use Rattle.dvd_words.specs.declared.table.Command.TheVariants.{Merge}
use Rattle.dvd_commands.proofs.opening.HeaderTaken.{gone_over}
use Rattle.dvd_commands.proofs.merge.run_merge.Goals as goal

pub returns-clause-performed : goal.returns-clause-performed
returns-clause-performed g c = λ report.
    gone_over Merge c.args.start.now.settings.now c.requires.command (c.in_ok-layout.ensures.valid refl) c.in_ok-layout.layout c.in_ok-layout.ensures.lengths
    _ _ c.merge_loop.result (c.merge_loop.ensures.follows report)
