-- What the laws of runs rest on of `frames` and `cdmake`.
use Rattle.std.proofs.Common.{◌∙◌, ◌+◌, [], ◌∷◌, arith, length, refl, sym}
use Rattle.cd_sector.proofs.OneSector.{one_sector}
use Rattle.dvd_loop.specs.Machine.{Units}
use Rattle.dvd_loop.specs.Machine.Step.{Write}
use Rattle.dvd_loop.specs.declared.ends.UnitKind.TheVariants.{Good}
use Rattle.dvd_commands.specs.CdMake.{cdmake_units}
use Rattle.dvd_commands.specs.Frames.{frames_units}
use Rattle.dvd_commands.proofs.OneRun.{one_closing}
use Rattle.dvd_commands.proofs.RunFacts.{RunFacts, facts_by_settings}
use Rattle.dvd_commands.proofs.SomeThing.{no_closing}
use Rattle.dvd_commands.proofs.making.Done.{made_is_one, made_some}
use Rattle.dvd_words.specs.declared.table.Command.TheVariants.{CdMake, Frames}
use Rattle.dvd_words.specs.declared.settings.Settings.{Settings}

-- the units of `frames`, by its settings
abbrev frames : Settings → Units
frames settings = frames_units settings.first settings.sectors

pub frames_facts : RunFacts Frames
frames_facts =
    facts_by_settings frames 2048 (λ workers settings bytes outcome runs. runs) (λ settings k own. refl)
    (λ settings before own. made_is_one _ (λ a b p q. p ∙ sym q)) (λ settings before. one_closing)
    (λ settings needs before own lt is. (Write _ ∷ [], Good, record { made = _; holds = refl; writes = refl; good = refl })) (λ settings before all. no_closing)

-- those of `cdmake`
abbrev sectors : Settings → Units
sectors settings = cdmake_units settings.address settings.sectors

pub cdmake_facts : RunFacts CdMake
cdmake_facts =
    facts_by_settings sectors 2048 (λ workers settings bytes outcome runs. runs) (λ settings k own. refl)
    (λ settings before own. made_is_one _ (one_sector (settings.address + length before) own)) (λ settings before. one_closing)
    (λ settings needs before own within. let last = needs refl in made_some (settings.address + length before) own (omega (arith, last)))
    (λ settings before all. no_closing)
