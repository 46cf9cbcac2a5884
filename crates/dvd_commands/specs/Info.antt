-- The command `info`: block k is a captured block of the lead-in (ECMA-267, control data). The first control block that
-- is right, and whose first sector is a physical format, is the last that is read: eleven lines of that format are
-- written to the output. If none of the 192 control blocks is one, the end is NoControl.
use Rattle.std.specs.Prelude.{◌≡◌, ◌⊎◌, ℕ, ◌+◌, Bool, Some, None, List, [], ◌∷◌, ◌++◌, codes, decimal, if◌then◌else◌}
use Rattle.coding.specs.Product.{line}
use Rattle.dvd_capture.specs.declared.form.Form.{Form}
use Rattle.dvd_control.specs.Format.{Fields, control_fault, fields_in}
use Rattle.dvd_control.specs.declared.format.ControlFault.{ControlFault}
use Rattle.dvd_layout.specs.Lengths.{initial_fault}
use Rattle.dvd_layout.specs.Plan.{lead_in_blocks}
use Rattle.dvd_layout.specs.declared.entry.BlockPlan.{BlockPlan}
use Rattle.dvd_layout.specs.declared.entry.Content.{Content}
use Rattle.dvd_layout.specs.declared.entry.Content.TheVariants.{Zero, Reference, Control, Image}
use Rattle.dvd_loop.specs.Machine.{Step, Units}
use Rattle.dvd_loop.specs.Machine.Step.{Write}
use Rattle.dvd_loop.specs.declared.ends.AfterLast.TheVariants.{NoControl}
use Rattle.dvd_loop.specs.declared.ends.UnitKind.{UnitKind}
use Rattle.dvd_loop.specs.declared.ends.UnitKind.TheVariants.{Good, Last}
use Rattle.dvd_decoding.specs.Reading.{IsReadAs, block_cause}
use Rattle.dvd_decoding.specs.declared.cause.Cause.{Cause}
use Rattle.dvd_report.specs.Lines.{hexadecimal}
use Rattle.dvd_commands.specs.Captured.{IsDoneByEntry, IsPassedOver, captured_units}
use Rattle.dvd_commands.specs.Meaning.{Meaning, by_settings}

-- a line with a name and a number in decimal
abbrev pub number_line : List ℕ → ℕ → List ℕ
number_line name number = name ++ decimal number ++ codes "\n"

-- a line with a name and a sector number in six hexadecimal digits
abbrev pub sector_line : List ℕ → ℕ → List ℕ
sector_line name number = name ++ hexadecimal 6 number ++ codes "\n"

-- the eleven lines of a physical format
unfoldable pub format_lines : Fields → List ℕ
format_lines format =
    number_line (codes "version ") format.version
    ++ number_line (codes "rate ") format.rate
    ++ number_line (codes "layers ") (if format.two_layers then 2 else 1)
    ++ (if format.opposite then codes "path opposite\n" else codes "path parallel\n")
    ++ number_line (codes "kind ") format.kind
    ++ number_line (codes "density ") format.density
    ++ number_line (codes "pitch ") format.pitch
    ++ sector_line (codes "first ") format.first
    ++ sector_line (codes "last ") format.last
    ++ sector_line (codes "layer0 ") format.layer0_last
    ++ number_line (codes "bca ") (if format.bca then 1 else 0)

-- A block of control data answers: it is right, its first sector is a physical format, and the lines of that are
-- written.
pub record GivesFormat (entry : BlockPlan) (rows : List (List ℕ)) (marks : List (List Bool)) (steps : List Step) (kind : UnitKind) : Type 0 where
  pub sectors : List (List ℕ)
  pub read : IsReadAs rows marks entry sectors
  pub valid : control_fault (line sectors 0) ≡ None
  pub writes : steps ≡ Write (format_lines (fields_in (line sectors 0))) ∷ []
  pub last : kind ≡ Last

-- Or it answers nothing: it has a cause, or its first sector breaks a rule of physical formats.
pub record GivesNoFormat (entry : BlockPlan) (rows : List (List ℕ)) (marks : List (List Bool)) (steps : List Step) (kind : UnitKind) : Type 0 where
  pub why : ((cause : Cause) × (block_cause rows marks entry ≡ Some cause))
      ⊎ ((sectors : List (List ℕ)) × (fault : ControlFault) × IsReadAs rows marks entry sectors × (control_fault (line sectors 0) ≡ Some fault))
  pub nothing : steps ≡ []
  pub good : kind ≡ Good

-- what is done for a block of control data
abbrev pub IsControlDone : BlockPlan → List (List ℕ) → List (List Bool) → List Step → UnitKind → Type 0
IsControlDone entry rows marks steps kind = GivesFormat entry rows marks steps kind ⊎ GivesNoFormat entry rows marks steps kind

-- a block that holds none is passed over
abbrev pub IsAsked : Content → BlockPlan → List (List ℕ) → List (List Bool) → List Step → UnitKind → Type 0
IsAsked Control entry rows marks steps kind = IsControlDone entry rows marks steps kind
IsAsked Zero entry rows marks steps kind = IsPassedOver steps kind
IsAsked Reference entry rows marks steps kind = IsPassedOver steps kind
IsAsked (Image sector) entry rows marks steps kind = IsPassedOver steps kind

-- what is done for block k of the lead-in, whose captured bytes are its own
abbrev pub IsSought : ℕ → Form → ℕ → List ℕ → List Step → UnitKind → Type 0
IsSought initial = IsDoneByEntry (lead_in_blocks initial) (λ entry. IsAsked entry.content entry)

-- The blocks up to the last of control data: the Initial Zone, 2 of reference code, 30 of a buffer zone, and 192. The
-- first that answers is the last that is read. After all of them, none has answered.
abbrev pub info_units : ℕ → Form → Units
info_units initial form = record (captured_units (initial + 224) form (IsSought initial form)) { after_last = NoControl }

-- the meaning of `info`: of a layout it has the Initial Zone alone
abbrev pub info_meaning : Meaning
info_meaning = record (by_settings (λ settings. info_units settings.initial settings.form)) {
  breaks = λ settings. initial_fault settings.initial;
}
