-- The command `survey`: block k is a captured block, whatever the disk has there. A line is written to the output with
-- its PI error rows, its failed rows and its cause, and after the last block a line of totals.
use Rattle.std.specs.Prelude.{◌≡◌, ℕ, Some, None, Option, List, [], ◌∷◌, ◌++◌, length, map, zip, slice_get}
use Rattle.dvd_capture.specs.Captured.{captured_rows, captured_marks}
use Rattle.dvd_capture.specs.declared.form.Form.{Form}
use Rattle.dvd_layout.specs.Plan.{plan_of}
use Rattle.dvd_layout.specs.declared.entry.BlockPlan.{BlockPlan}
use Rattle.dvd_layout.specs.declared.layout.Layout.{Layout}
use Rattle.dvd_layout.specs.declared.layout.Zones.{Zones}
use Rattle.dvd_loop.specs.Machine.{Step, Units}
use Rattle.dvd_loop.specs.Machine.Step.{Write}
use Rattle.dvd_loop.specs.declared.ends.AfterLast.TheVariants.{EndOfInput}
use Rattle.dvd_loop.specs.declared.ends.UnitKind.{UnitKind}
use Rattle.dvd_loop.specs.declared.ends.UnitKind.TheVariants.{Good, Bad}
use Rattle.dvd_decoding.specs.Reading.{block_cause}
use Rattle.dvd_decoding.specs.declared.cause.Cause.{Cause}
use Rattle.dvd_report.specs.Survey.{survey_line, surveyed, totals_line}
use Rattle.dvd_report.specs.declared.counts.Surveyed.{Surveyed}
use Rattle.dvd_commands.specs.Captured.{captured_part}
use Rattle.dvd_commands.specs.Meaning.{Meaning, by_layout}

-- what is found of a captured block, by its entry of the plan
abbrev pub found_of : Form → List ℕ × BlockPlan → Surveyed
found_of form captured = surveyed (captured_rows form captured.0) (captured_marks form captured.0) captured.1

-- what is found of the first blocks of a stream, by their bytes
unfoldable pub found_in : Layout → Zones → Form → List (List ℕ) → List Surveyed
found_in layout zones form blocks = map (found_of form) (zip blocks (plan_of layout zones))

-- a block with a cause is bad
abbrev pub kind_by : Option Cause → UnitKind
kind_by None = Good
kind_by (Some cause) = Bad

-- What is done for block k of the plan, whatever it holds: its line is written, which depends on the blocks before it
-- too.
pub record IsSurveyed (layout : Layout) (zones : Zones) (form : Form) (k : ℕ) (before : List (List ℕ)) (own : List ℕ) (steps : List Step) (kind : UnitKind) : Type 0 where
  pub entry : BlockPlan
  pub is_there : slice_get (plan_of layout zones) k ≡ Some entry
  pub writes : steps ≡ Write (survey_line k entry (found_in layout zones form (before ++ own ∷ []))) ∷ []
  pub answers : kind ≡ kind_by (block_cause (captured_rows form own) (captured_marks form own) entry)

-- After the last block, and before one more byte is requested, the line of totals is written.
abbrev pub survey_units : Layout → Zones → Form → Units
survey_units layout zones form = record {
  count = length (plan_of layout zones);
  begins = λ k. captured_part form;
  opens = [];
  does = IsSurveyed layout zones form;
  closes = λ before steps. steps ≡ Write (totals_line (found_in layout zones form before)) ∷ [];
  after_last = EndOfInput;
}

-- the meaning of `survey`: its layout has to break no rule
abbrev pub survey_meaning : Meaning
survey_meaning = by_layout (λ settings layout. survey_units layout settings.zones settings.form)
