-- What the laws of runs rest on of `assemble`.
use Rattle.std.proofs.Common.{◌∙◌, [], refl, sym}
use Rattle.dvd_assemble.specs.Frames.{frame_size}
use Rattle.dvd_layout.specs.declared.layout.Layout.{Layout}
use Rattle.dvd_commands.specs.Assemble.{assemble_units}
use Rattle.dvd_commands.proofs.OneRun.{one_closing}
use Rattle.dvd_commands.proofs.RunFacts.{RunFacts, facts_of_sized}
use Rattle.dvd_loop.specs.Machine.{Units}
use Rattle.dvd_loop.specs.declared.ends.UnitKind.TheVariants.{Good}
use Rattle.dvd_words.specs.declared.table.Command.TheVariants.{Assemble}
use Rattle.dvd_words.specs.declared.settings.Settings.{Settings}

-- its units, by its settings and their layout
abbrev frames : Settings → Layout → Units
frames settings layout = assemble_units layout settings.form settings.frames

pub facts : RunFacts Assemble
facts =
    facts_of_sized frames (λ settings layout k. frame_size settings.form) (λ workers settings layout bytes outcome runs. runs) (λ settings layout k own. refl)
    (λ settings layout before own steps others kind other x y. (x.0 ∙ sym y.0, x.1 ∙ sym y.1)) (λ settings layout before. one_closing)
    (λ settings layout six before own lt is. ([], Good, (refl, refl))) (λ settings layout before all. (_, refl))
