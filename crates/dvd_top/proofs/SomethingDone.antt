-- For every input each command does something.
use Rattle.std.proofs.Common.{◌≡◌, ◌≢◌, ℕ, List, All, None, refl, sym, subst, ap, ◌∙◌}
use Rattle.dvd_capture.specs.declared.form.Form.{Form}
use Rattle.dvd_capture.specs.declared.form.Form.TheVariants.{Plain, Marked, Listed}
use Rattle.dvd_loop.proofs.Totality.{Exists}
use Rattle.dvd_commands.specs.Commands.{GoesOver, breaks_in, meaning}
use Rattle.dvd_commands.specs.CdMake.{HasAddresses}
use Rattle.dvd_commands.specs.Opening.{IsHeaderOf, Opens}
use Rattle.dvd_commands.proofs.EachCommand.{facts_of}
use Rattle.dvd_commands.proofs.FrameBytes.{HasBytes, IsByte}
use Rattle.dvd_top.specs.Laws.{SomethingIsDone}
use Rattle.dvd_top.proofs.OpenedRuns.{opened_exists, stated-command}
use Rattle.dvd_words.specs.Settings.{broken_rule}
use Rattle.dvd_words.specs.declared.table.Command.{Command}
use Rattle.dvd_words.specs.declared.table.Command.TheVariants as command
use Rattle.dvd_words.specs.declared.settings.Settings.{Settings}

-- what a listed capture states is of other commands than that which makes CD-ROM sectors
not_made : (form : Form) → (word : Command) → form ≡ Listed → (word ≡ command.CdMake → form ≡ Plain) → word ≢ command.CdMake
not_made form word listed plain is = let no : Plain ≡ Listed = sym (plain is) ∙ listed in cc

-- each command whose words break no rule has an outcome for every input of bytes
goes_some : (settings : Settings) (bytes : List ℕ) → HasBytes 6 settings.cpr → All IsByte bytes → (meaning settings.command).breaks settings ≡ None
    → (settings.command ≡ command.CdMake → HasAddresses settings) → Exists (GoesOver settings bytes)
goes_some settings = (facts_of settings.command).some settings

module _ (settings : Settings) (bytes : List ℕ) (six : HasBytes 6 settings.cpr) (are : All IsByte bytes)
    (addresses : settings.command ≡ command.CdMake → HasAddresses settings × (settings.form ≡ Plain)) where
  -- after the header of a listed capture
  stated_some : settings.form ≡ Listed → (stated : Settings) (left : List ℕ) → All IsByte left → (own : List ℕ) → IsHeaderOf settings stated own
      → broken_rule stated ≡ None → Exists (GoesOver stated left)
  stated_some listed stated left rest own header none =
      let same = stated-command settings stated own header in
      let cpr : stated.cpr ≡ settings.cpr = ap (λ (s : Settings). s.cpr) header.states.all in
      goes_some stated left (subst (HasBytes 6) (sym cpr) six) rest ((facts_of stated.command).valid stated none)
      (λ is. absurd (not_made settings.form settings.command listed (λ so. (addresses so).1) (sym same ∙ is)))

  -- so every form has one: over the blocks of a plain or a marked stream, and after the header of a listed one
  by_form : (form : Form) → settings.form ≡ form → breaks_in form settings ≡ None → Exists (Opens form GoesOver settings bytes)
  by_form Plain is none = goes_some settings bytes six are none (λ so. (addresses so).0)
  by_form Marked is none = goes_some settings bytes six are none (λ so. (addresses so).0)
  by_form Listed is none = opened_exists GoesOver settings bytes are (stated_some is)

-- the law: for every input each command does something
pub something : SomethingIsDone
something settings bytes size cpr_bytes are none addresses =
    by_form settings bytes (record { size = size; bytes = cpr_bytes }) are addresses settings.form refl none
