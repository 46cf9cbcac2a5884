-- What the laws of runs rest on of `master`.
use Rattle.std.proofs.Common.{length, refl}
use Rattle.dvd_layout.specs.declared.layout.Layout.{Layout}
use Rattle.dvd_commands.specs.Master.{bytes_of_block, master_units}
use Rattle.dvd_commands.proofs.OneRun.{one_closing}
use Rattle.dvd_commands.proofs.RunFacts.{RunFacts, facts_of_sized}
use Rattle.dvd_commands.proofs.SomeThing.{no_closing}
use Rattle.dvd_commands.proofs.master.Done.{mastered_is_one, mastered_some}
use Rattle.dvd_loop.specs.Machine.{Units}
use Rattle.dvd_words.specs.declared.table.Command.TheVariants.{Master}
use Rattle.dvd_words.specs.declared.settings.Settings.{Settings}

-- its units, by its settings and their layout
abbrev blocks : Settings → Layout → Units
blocks settings layout = master_units layout settings.zones settings.cpr

pub facts : RunFacts Master
facts =
    facts_of_sized blocks (λ settings layout. bytes_of_block layout settings.zones) (λ workers settings layout bytes outcome runs. runs) (λ settings layout k own. refl)
    (λ settings layout before own. mastered_is_one layout settings.zones settings.cpr (length before) own) (λ settings layout before. one_closing)
    (λ settings layout six before own. mastered_some layout settings.zones settings.cpr six (length before) own) (λ settings layout before all. no_closing)
