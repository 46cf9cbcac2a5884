-- The bound of recovery: what a run gives back where the damage of a block is within the bound.
use Rattle.std.specs.Prelude.{◌≡◌, ◌⊎◌, ℕ, ◌+◌, ◌*◌, ◌<◌, List, [], ◌∷◌, length, take, drop, Some, slice_get}
use Rattle.coding.specs.Product.{IsBlockOf}
use Rattle.dvd_capture.specs.Captured.{captured_marks, captured_rows}
use Rattle.coding.specs.TwoPass.{answers_of}
use Rattle.coding.specs.Within.{IsWithin}
use Rattle.dvd_capture.specs.declared.form.Form.{Form}
use Rattle.dvd_layout.specs.Content.{IsImage, image_from}
use Rattle.dvd_layout.specs.Place.{image_sectors, total_sectors}
use Rattle.dvd_layout.specs.Plan.{plan_of}
use Rattle.dvd_layout.specs.declared.entry.BlockPlan.{BlockPlan}
use Rattle.dvd_layout.specs.declared.layout.Layout.{Layout}
use Rattle.dvd_layout.specs.declared.layout.Zones.{Zones}
use Rattle.dvd_loop.specs.Laws.{IsFaultless, IsPrefixOf}
use Rattle.dvd_loop.specs.Machine.{Outcome, Step}
use Rattle.dvd_loop.specs.Machine.Step.{Write}
use Rattle.dvd_loop.specs.declared.ends.LoopEnd.TheVariants.{ReadFault}
use Rattle.dvd_loop.specs.declared.ends.UnitKind.{UnitKind}
use Rattle.dvd_loop.specs.declared.ends.UnitKind.TheVariants.{Good}
use Rattle.dvd_decoding.specs.Causes.{two_pass_cause}
use Rattle.dvd_decoding.specs.declared.cause.Cause.{Cause}
use Rattle.dvd_commands.specs.Captured.{HasBlocks, block_bytes}
use Rattle.dvd_commands.specs.Master.{filled_block, frames_of, image_part}
use Rattle.dvd_commands.specs.Deep.{IsDeepened}
use Rattle.dvd_commands.specs.Recover.{HasGoodRows, IsRecovered}
use Rattle.dvd_words.specs.Settings.{IsLayoutOf}
use Rattle.dvd_words.specs.declared.table.Command.{Command}
use Rattle.dvd_words.specs.declared.table.Command.TheVariants.{Recover, Deep}
use Rattle.dvd_words.specs.declared.settings.Settings.{Settings}

-- the commands that write the image sectors of captured blocks
abbrev pub Rescues : Command → Type 0
Rescues command = (command ≡ Recover) ⊎ (command ≡ Deep)

-- what they do for block k of the plan
abbrev pub IsRescued : Command → Layout → Zones → Form → ℕ → List ℕ → List Step → UnitKind → Type 0
IsRescued Deep = IsDeepened
IsRescued other = IsRecovered

-- Captured block k is whole in the stream, and it was mastered for its place of this image and this CPR_MAI.
pub record WasMastered (layout : Layout) (zones : Zones) (form : Form) (bytes cpr image : List ℕ) (k : ℕ) (entry : BlockPlan) : Type 0 where
  pub whole : HasBlocks form bytes (k + 1)
  pub is_there : slice_get (plan_of layout zones) k ≡ Some entry
  pub is_image : IsImage entry.content
  pub cpr_size : length cpr ≡ 6
  pub image_size : length image ≡ 2048 * total_sectors layout
  pub block : List (List ℕ)
  pub is_block : IsBlockOf (frames_of layout entry cpr (filled_block (image_part layout entry image))) block

-- It was mastered, and its damage is within the bound: twice the bad rows plus the lost rows is at most 16.
pub record IsBlockWithinBound (layout : Layout) (zones : Zones) (form : Form) (bytes cpr image : List ℕ) (k : ℕ) (entry : BlockPlan) : Type 0 where
  pub mastered : WasMastered layout zones form bytes cpr image k entry
  pub within : IsWithin mastered.block (captured_rows form (block_bytes form bytes k)) (captured_marks form (block_bytes form bytes k))

-- It was mastered, and two passes refuse it.
pub record IsBeyond (layout : Layout) (zones : Zones) (form : Form) (bytes cpr image : List ℕ) (k : ℕ) (entry : BlockPlan) : Type 0 where
  pub mastered : WasMastered layout zones form bytes cpr image k entry
  pub cause : Cause
  pub refused : two_pass_cause (answers_of (captured_rows form (block_bytes form bytes k)) (captured_marks form (block_bytes form bytes k))) ≡ Some cause

-- These are in the output, whatever ended the run: without a fault those of the input, and after a failed read those
-- that came before it.
pub record GivesWhatCame (Gives : List ℕ → List ℕ → Type 0) (bytes : List ℕ) (outcome : Outcome) : Type 0 where
  pub at_place : IsFaultless outcome.end → Gives bytes outcome.out
  pub received : outcome.end ≡ ReadFault → Gives outcome.taken outcome.out

-- For every image and every CPR_MAI: of each of these blocks that is within the bound, exactly the image sectors are at
-- their place in the output.
abbrev pub GivesBack : Layout → Settings → List ℕ → List ℕ → Type 0
GivesBack layout settings bytes out =
    (cpr image : List ℕ) (k : ℕ) (entry : BlockPlan) → IsBlockWithinBound layout settings.zones settings.form bytes cpr image k entry
    → image_part layout entry out ≡ image_part layout entry image

-- The bound, for each block within it: those that came are given back, and whatever ended the run, what was written of
-- one is a prefix of what was mastered. Nothing else may be done for such a block, so that no line names it.
pub record KeepsBound (settings : Settings) (bytes : List ℕ) (outcome : Outcome) : Type 0 where
  pub layout : Layout
  pub is_layout : IsLayoutOf settings layout
  pub given : GivesWhatCame (GivesBack layout settings) bytes outcome
  pub begun : (cpr image : List ℕ) (k : ℕ) (entry : BlockPlan) → IsBlockWithinBound layout settings.zones settings.form bytes cpr image k entry
      → IsPrefixOf (image_part layout entry outcome.out) (image_part layout entry image)
  pub alone : (cpr image : List ℕ) (k : ℕ) (entry : BlockPlan) → IsBlockWithinBound layout settings.zones settings.form bytes cpr image k entry
      → (steps : List Step) (kind : UnitKind) → IsRescued settings.command layout settings.zones settings.form k (block_bytes settings.form bytes k) steps kind
      → (steps ≡ Write (image_part layout entry image) ∷ []) × (kind ≡ Good)

-- image sector f of a block
abbrev pub sector_part : BlockPlan → ℕ → List ℕ → List ℕ
sector_part entry f image = take 2048 (drop (2048 * (image_from entry.content + f)) image)

-- image sector f of block k, which two passes refuse, has twelve good rows
pub record IsGoodSector (layout : Layout) (settings : Settings) (bytes cpr image : List ℕ) (k f : ℕ) (entry : BlockPlan) : Type 0 where
  pub beyond : IsBeyond layout settings.zones settings.form bytes cpr image k entry
  pub is_image : f < image_sectors layout entry.content
  pub good : HasGoodRows beyond.mastered.block (captured_rows settings.form (block_bytes settings.form bytes k)) (captured_marks settings.form (block_bytes settings.form bytes k)) f

-- For every image and every CPR_MAI: each such sector of these blocks is in the output as it is in the image.
abbrev pub GivesGoodSectors : Layout → Settings → List ℕ → List ℕ → Type 0
GivesGoodSectors layout settings bytes out =
    (cpr image : List ℕ) (k f : ℕ) (entry : BlockPlan) → IsGoodSector layout settings bytes cpr image k f entry
    → sector_part entry f out ≡ sector_part entry f image

-- Likewise for the good sectors of blocks that two passes refuse, whatever ended the run.
pub record KeepsGoodFrames (settings : Settings) (bytes : List ℕ) (outcome : Outcome) : Type 0 where
  pub layout : Layout
  pub is_layout : IsLayoutOf settings layout
  pub given : GivesWhatCame (GivesGoodSectors layout settings) bytes outcome
  pub begun : (cpr image : List ℕ) (k f : ℕ) (entry : BlockPlan) → IsGoodSector layout settings bytes cpr image k f entry
      → IsPrefixOf (sector_part entry f outcome.out) (sector_part entry f image)
