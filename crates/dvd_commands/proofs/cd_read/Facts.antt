-- What the laws of runs rest on of `cdread`.
use Rattle.std.proofs.Common.{◌+◌, length, refl}
use Rattle.dvd_loop.specs.Machine.{Units}
use Rattle.dvd_commands.specs.CdRead.{cdread_units}
use Rattle.dvd_commands.proofs.OneRun.{one_closing}
use Rattle.dvd_commands.proofs.RunFacts.{RunFacts, facts_by_settings}
use Rattle.dvd_commands.proofs.SomeThing.{no_closing}
use Rattle.dvd_commands.proofs.cd_read.Sectors.{read_is_one, read_some}
use Rattle.dvd_words.specs.declared.table.Command.TheVariants.{CdRead}
use Rattle.dvd_words.specs.declared.settings.Settings.{Settings}

-- its units, by its settings
abbrev sectors : Settings → Units
sectors settings = cdread_units settings.address settings.sectors

pub facts : RunFacts CdRead
facts =
    facts_by_settings sectors 2352 (λ workers settings bytes outcome runs. runs) (λ settings k own. refl)
    (λ settings before own. read_is_one (settings.address + length before) (length before) own) (λ settings before. one_closing)
    (λ settings needs before own within is. read_some (settings.address + length before) (length before) own) (λ settings before all. no_closing)
