-- What the laws of runs rest on of `convert`.
use Rattle.std.proofs.Common.{ℕ, List, refl, subst}
use Rattle.dvd_layout.specs.declared.layout.Layout.{Layout}
use Rattle.dvd_loop.proofs.Totality.{exists}
use Rattle.dvd_loop.specs.Machine.{IsOutcome, Units}
use Rattle.dvd_commands.specs.Convert.{convert_units}
use Rattle.dvd_commands.proofs.CapturedBlocks.{blocks_total}
use Rattle.dvd_commands.proofs.Layouts.{layout_for}
use Rattle.dvd_commands.proofs.OneRun.{one_capture, one_closing, one_layout}
use Rattle.dvd_commands.proofs.OtherWorkers.{header_with, layout_with}
use Rattle.dvd_commands.proofs.RunFacts.{RunFacts}
use Rattle.dvd_commands.proofs.SomeThing.{no_closing}
use Rattle.dvd_commands.proofs.convert.Blocks.{converted_is_one, converted_some, opening_once, some_opening}
use Rattle.dvd_words.specs.declared.table.Command.TheVariants.{Convert}
use Rattle.dvd_words.specs.declared.settings.Settings.{Settings}

-- its units, by its settings, their layout and the header
abbrev blocks : Settings → Layout → List ℕ → Units
blocks settings layout opening = convert_units layout settings.zones settings.form opening

pub facts : RunFacts Convert
facts = record {
  once = λ settings bytes a b goes others none other.
      let ((layout, opening), (is, header), p) = goes in
      let ((same, other_opening), (so, other_header), q) = others in
      one_capture (blocks settings layout opening) settings.form (λ k own. refl)
      (λ before own. converted_is_one settings.form own) (λ before. one_closing) bytes a b p
      (subst (λ o. IsOutcome (blocks settings layout o) bytes b) (opening_once settings other_opening opening other_header header)
      (subst (λ l. IsOutcome (blocks settings l other_opening) bytes b) (one_layout settings same layout so is) q)) none other;
  some = λ settings bytes six are none addresses.
      let layout = layout_for settings none in
      let opening = some_opening settings none in
      let units = blocks settings layout.0 opening.0 in
      let exists = exists units
      (blocks_total units settings.form (λ k own. refl) (λ before own lt whole. converted_some settings.form own whole) (λ before all. no_closing)) bytes in
      (exists.0, ((layout.0, opening.0), (layout.1, opening.1), exists.1), exists.2);
  alike = λ workers settings bytes outcome goes.
      let ((layout, opening), (is, header), runs) = goes in
      ((layout, opening), (layout_with workers settings layout is, header_with workers settings settings opening header), runs);
  valid = λ settings none. none;
}
