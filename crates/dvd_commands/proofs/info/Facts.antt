-- What the laws of runs rest on of `info`.
use Rattle.std.proofs.Common.{◌≡◌, ◌≤◌, suc, Some, None, ap, arith, cond, length, refl, subst}
use Rattle.std.proofs.lemmas.Bool.{lt-leb}
use Rattle.dvd_layout.specs.declared.fault.LayoutFault.TheVariants.{InitialTooLong}
use Rattle.dvd_loop.specs.Machine.{Units}
use Rattle.dvd_commands.specs.Info.{info_units}
use Rattle.dvd_commands.proofs.Layouts.{layout_for}
use Rattle.dvd_commands.proofs.OneRun.{one_capture, one_closing}
use Rattle.dvd_commands.proofs.RunFacts.{RunFacts}
use Rattle.dvd_commands.proofs.SomeRun.{captures_exist}
use Rattle.dvd_commands.proofs.SomeThing.{no_closing}
use Rattle.dvd_commands.proofs.info.Done.{sought_is_one, sought_some}
use Rattle.dvd_words.specs.Settings.{broken_rule}
use Rattle.dvd_words.specs.declared.table.Command.TheVariants.{Info}
use Rattle.dvd_words.specs.declared.settings.Settings.{Settings}

-- its units, by its settings
abbrev blocks : Settings → Units
blocks settings = info_units settings.initial settings.form

-- the Initial Zone of a layout isn't too long
fits : (settings : Settings) → broken_rule settings ≡ None → settings.initial ≤ 12031
fits settings none = let (layout, is) = layout_for settings none in subst (λ n. n ≤ 12031) is.initial layout.initial_fits

pub facts : RunFacts Info
facts = record {
  once = λ settings bytes a b goes others.
      one_capture (blocks settings) settings.form (λ k own. refl) (λ before own. sought_is_one settings.initial settings.form (length before) own)
      (λ before. one_closing) bytes a b goes.2 others.2;
  some = λ settings bytes six are none addresses.
      let exists = captures_exist (blocks settings) settings.form (λ k own. refl)
      (λ before own. sought_some settings.initial settings.form (length before) own) (λ before all. no_closing) bytes in
      (exists.0, (tt, tt, exists.1), exists.2);
  alike = λ workers settings bytes outcome goes. goes;
  valid = λ settings none.
      let initial = fits settings none in
      ap (λ b. cond b (Some (InitialTooLong settings.initial)) None) (lt-leb (suc 12031) settings.initial (omega (arith, initial)));
}
