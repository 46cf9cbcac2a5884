-- The command `convert` (ours): block k is a captured block in the plain or the marked form. A header with the layout
-- is written before the first, and then the listed unit of each.
use Rattle.std.specs.Prelude.{◌≡◌, ℕ, List, [], ◌∷◌, length}
use Rattle.dvd_capture.specs.Captured.{IsUnitOf, captured_rows, captured_marks}
use Rattle.dvd_capture.specs.declared.form.Form.{Form}
use Rattle.dvd_layout.specs.Plan.{plan_of}
use Rattle.dvd_layout.specs.declared.layout.Layout.{Layout}
use Rattle.dvd_layout.specs.declared.layout.Zones.{Zones}
use Rattle.dvd_loop.specs.Machine.{IsOutcome, Outcome, Step, Units}
use Rattle.dvd_loop.specs.Machine.Step.{Write}
use Rattle.dvd_loop.specs.declared.ends.UnitKind.{UnitKind}
use Rattle.dvd_loop.specs.declared.ends.UnitKind.TheVariants.{Good}
use Rattle.dvd_commands.specs.Captured.{captured_units}
use Rattle.dvd_commands.specs.Meaning.{Meaning}
use Rattle.dvd_commands.specs.Opening.{IsHeaderOf}
use Rattle.dvd_words.specs.Settings.{IsLayoutOf, broken_rule}
use Rattle.dvd_words.specs.declared.settings.Settings.{Settings}

-- the listed unit of the rows and marks of a captured block is written
pub record IsConverted (form : Form) (own : List ℕ) (steps : List Step) (kind : UnitKind) : Type 0 where
  pub unit : List ℕ
  pub is_unit : IsUnitOf (captured_rows form own) (captured_marks form own) unit
  pub writes : steps ≡ Write unit ∷ []
  pub good : kind ≡ Good

-- Unit k is a captured block, whatever the plan has there. Before the first of them this header is written.
abbrev pub convert_units : Layout → Zones → Form → List ℕ → Units
convert_units layout zones form opening =
    record (captured_units (length (plan_of layout zones)) form (λ k. IsConverted form)) { opens = Write opening ∷ [] }

-- a loop over units of this layout that open with the header that states these settings
abbrev pub Converts : Settings → Layout → List ℕ → Outcome → Type 0
Converts settings layout bytes outcome =
    (opening : List ℕ) × IsHeaderOf settings settings opening
    × IsOutcome (convert_units layout settings.zones settings.form opening) bytes outcome

-- the meaning of `convert`: its layout has to break no rule, and its units open with the header that states the
-- settings
abbrev pub convert_meaning : Meaning
convert_meaning = record {
  breaks = broken_rule;
  Subject = Layout × List ℕ;
  IsSubject = λ settings subject. IsLayoutOf settings subject.0 × IsHeaderOf settings settings subject.1;
  units = λ settings subject. convert_units subject.0 settings.zones settings.form subject.1;
}
