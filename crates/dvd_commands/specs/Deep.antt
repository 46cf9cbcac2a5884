-- The command `deep` (ours): as `recover`, but a block that two passes refuse is read by up to four rounds. Where a
-- round gives it back and its frames are right, a line is reported with the block and the round. After it its image
-- sectors are written.
use Rattle.std.specs.Prelude.{◌≡◌, ◌⊎◌, ℕ, Bool, None, Some, List, [], ◌∷◌, ◌++◌, take}
use Rattle.std.specs.List.{flat_map}
use Rattle.std.specs.declared.option.Option.{Option}
use Rattle.coding.specs.TwoPass.{answers_of}
use Rattle.dvd_capture.specs.declared.form.Form.{Form}
use Rattle.dvd_deep.specs.Reading.{IsDeep, deep_cause}
use Rattle.dvd_layout.specs.Place.{image_sectors}
use Rattle.dvd_layout.specs.Plan.{plan_of}
use Rattle.dvd_layout.specs.declared.entry.BlockPlan.{BlockPlan}
use Rattle.dvd_layout.specs.declared.layout.Layout.{Layout}
use Rattle.dvd_layout.specs.declared.layout.Zones.{Zones}
use Rattle.dvd_loop.specs.Machine.{Step, Units}
use Rattle.dvd_loop.specs.Machine.Step.{Write, Report}
use Rattle.dvd_loop.specs.declared.ends.UnitKind.{UnitKind}
use Rattle.dvd_loop.specs.declared.ends.UnitKind.TheVariants.{Good}
use Rattle.dvd_decoding.specs.Causes.{two_pass_cause}
use Rattle.dvd_decoding.specs.declared.cause.Cause.{Cause}
use Rattle.dvd_report.specs.Lines.{round_line}
use Rattle.dvd_commands.specs.Captured.{ForImage, IsDoneByEntry, image_units}
use Rattle.dvd_commands.specs.Recover.{IsRefused}
use Rattle.dvd_commands.specs.Meaning.{Meaning, by_layout}

-- the line of a round, where the two passes have a cause
abbrev pub round_report : Option Cause → ℕ → BlockPlan → ℕ → List Step
round_report None k entry round = []
round_report (Some cause) k entry round = Report (round_line k entry round) ∷ []

-- A round gives the block back and its frames are right: its image sectors are written, after the line of the round.
pub record IsGivenBack (layout : Layout) (k : ℕ) (entry : BlockPlan) (rows : List (List ℕ)) (marks : List (List Bool)) (steps : List Step) (kind : UnitKind) : Type 0 where
  pub round : ℕ
  pub sectors : List (List ℕ)
  pub read : IsDeep rows marks entry round sectors
  pub writes : steps ≡ round_report (two_pass_cause (answers_of rows marks)) k entry round
      ++ Write (flat_map (λ sector. sector) (take (image_sectors layout entry.content) sectors)) ∷ []
  pub good : kind ≡ Good

-- what is done for a block that holds image: it is given back, or it is refused for its first cause, as in `recover`
abbrev pub IsImageRead : Layout → ℕ → BlockPlan → List (List ℕ) → List (List Bool) → List Step → UnitKind → Type 0
IsImageRead layout k entry rows marks steps kind =
    IsGivenBack layout k entry rows marks steps kind ⊎ IsRefused (deep_cause rows marks entry) layout k entry rows marks steps kind

-- what is done for block k of the plan, as in `recover`
abbrev pub IsDeepened : Layout → Zones → Form → ℕ → List ℕ → List Step → UnitKind → Type 0
IsDeepened layout zones form k = IsDoneByEntry (plan_of layout zones) (ForImage (IsImageRead layout k)) form k

-- the units are the captured blocks of the plan
abbrev pub deep_units : Layout → Zones → Form → Units
deep_units = image_units IsImageRead

-- the meaning of `deep`: its layout has to break no rule
abbrev pub deep_meaning : Meaning
deep_meaning = by_layout (λ settings layout. deep_units layout settings.zones settings.form)
