-- The command `recover`: block k is a captured block. One without image sectors is passed over. If two passes determine
-- a block and its frames are right, its image sectors are written. Otherwise a line is reported with the block, its
-- first cause and how many frames are salvaged. After it the image sectors are written: those of the frames that are
-- right by themselves, and zeros for the others.
use Rattle.std.specs.Prelude.{◌≡◌, ◌⊎◌, ℕ, Bool, Option, Some, List, [], ◌∷◌, take, ◌+◌, ◌*◌, ◌<◌}
use Rattle.std.specs.List.{flat_map}
use Rattle.dvd_capture.specs.declared.form.Form.{Form}
use Rattle.dvd_layout.specs.Place.{image_sectors}
use Rattle.dvd_layout.specs.Plan.{plan_of}
use Rattle.dvd_layout.specs.declared.entry.BlockPlan.{BlockPlan}
use Rattle.dvd_layout.specs.declared.layout.Layout.{Layout}
use Rattle.dvd_layout.specs.declared.layout.Zones.{Zones}
use Rattle.dvd_loop.specs.Machine.{Step, Units}
use Rattle.dvd_loop.specs.Machine.Step.{Write, Report}
use Rattle.dvd_loop.specs.declared.ends.UnitKind.{UnitKind}
use Rattle.dvd_loop.specs.declared.ends.UnitKind.TheVariants.{Good, Bad}
use Rattle.dvd_decoding.specs.Reading.{IsReadAs, block_cause}
use Rattle.dvd_decoding.specs.Salvage.{block_out, saved_in}
use Rattle.dvd_decoding.specs.declared.cause.Cause.{Cause}
use Rattle.dvd_report.specs.Lines.{damage_line}
use Rattle.dvd_commands.specs.Captured.{ForImage, IsDoneByEntry, image_units}
use Rattle.dvd_commands.specs.Meaning.{Meaning, by_layout}
use Rattle.coding.specs.Product.{line}
use Rattle.dvd_capture.specs.Answers.{marks_line}
use Rattle.coding.specs.Within.{row_weight}

-- Two passes determine the block and its frames are right: its image sectors are written, without the padding sectors.
pub record IsGiven (layout : Layout) (entry : BlockPlan) (rows : List (List ℕ)) (marks : List (List Bool)) (steps : List Step) (kind : UnitKind) : Type 0 where
  pub sectors : List (List ℕ)
  pub read : IsReadAs rows marks entry sectors
  pub writes : steps ≡ Write (flat_map (λ sector. sector) (take (image_sectors layout entry.content) sectors)) ∷ []
  pub good : kind ≡ Good

-- Or the block is refused for its first cause. Its line is reported with the number of frames that are salvaged. Then
-- its image sectors are written, with zeros for those that are lost.
pub record IsRefused (has : Option Cause) (layout : Layout) (k : ℕ) (entry : BlockPlan) (rows : List (List ℕ)) (marks : List (List Bool)) (steps : List Step) (kind : UnitKind) : Type 0 where
  pub cause : Cause
  pub first : has ≡ Some cause
  pub reports : steps ≡ Report (damage_line k entry cause (saved_in rows marks entry)) ∷ Write (flat_map (λ sector. sector) (take (image_sectors layout entry.content) (block_out rows marks entry))) ∷ []
  pub bad : kind ≡ Bad

-- what is done for a block that holds image
abbrev pub IsImageDone : Layout → ℕ → BlockPlan → List (List ℕ) → List (List Bool) → List Step → UnitKind → Type 0
IsImageDone layout k entry rows marks steps kind =
    IsGiven layout entry rows marks steps kind ⊎ IsRefused (block_cause rows marks entry) layout k entry rows marks steps kind

-- what is done for block k of the plan, whose captured bytes are its own; one that holds no image is passed over
abbrev pub IsRecovered : Layout → Zones → Form → ℕ → List ℕ → List Step → UnitKind → Type 0
IsRecovered layout zones form k = IsDoneByEntry (plan_of layout zones) (ForImage (IsImageDone layout k)) form k

-- the units are the captured blocks of the plan
abbrev pub recover_units : Layout → Zones → Form → Units
recover_units = image_units IsImageDone

-- the twelve rows of frame f are good against the block that was recorded: none of them is bad or lost
abbrev pub HasGoodRows : List (List ℕ) → List (List ℕ) → List (List Bool) → ℕ → Type 0
HasGoodRows block received marks f =
    (q : ℕ) → q < 12 → row_weight (line block (12 * f + q)) (line received (12 * f + q)) (marks_line marks (12 * f + q)) ≡ 0

-- the meaning of `recover`: its layout has to break no rule
abbrev pub recover_meaning : Meaning
recover_meaning = by_layout (λ settings layout. recover_units layout settings.zones settings.form)
