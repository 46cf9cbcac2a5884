-- What the laws of runs rest on of `merge`.
use Rattle.std.proofs.Common.{◌∙◌, ◌*◌, [], ◌∷◌, refl, sym}
use Rattle.dvd_capture.specs.Captured.{block_size}
use Rattle.dvd_layout.specs.declared.layout.Layout.{Layout}
use Rattle.dvd_merge.specs.Join.{joined}
use Rattle.dvd_merge.specs.MarkedText.{marked_text}
use Rattle.dvd_commands.specs.Merge.{merge_units, tables_in}
use Rattle.dvd_commands.proofs.OneRun.{one_closing}
use Rattle.dvd_commands.proofs.RunFacts.{RunFacts, facts_of_sized}
use Rattle.dvd_commands.proofs.SomeThing.{no_closing}
use Rattle.dvd_loop.specs.Machine.{Units}
use Rattle.dvd_loop.specs.Machine.Step.{Write}
use Rattle.dvd_loop.specs.declared.ends.UnitKind.TheVariants.{Good}
use Rattle.dvd_words.specs.declared.table.Command.TheVariants.{Merge}
use Rattle.dvd_words.specs.declared.settings.Settings.{Settings}

-- its units, by its settings and their layout
abbrev blocks : Settings → Layout → Units
blocks settings layout = merge_units layout settings.zones settings.form settings.captures

pub facts : RunFacts Merge
facts =
    facts_of_sized blocks (λ settings layout k. settings.captures * block_size settings.form) (λ workers settings layout bytes outcome runs. runs) (λ settings layout k own. refl)
    (λ settings layout before own steps others kind other x y. (x.0 ∙ sym y.0, x.1 ∙ sym y.1)) (λ settings layout before. one_closing)
    (λ settings layout six before own lt is. (Write (marked_text (joined (tables_in settings.captures settings.form own))) ∷ [], Good, (refl, refl)))
    (λ settings layout before all. no_closing)
