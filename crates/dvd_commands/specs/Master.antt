-- The command `master`: block k of the plan reads the image sectors that are in it, filled with zeros to sixteen. The
-- recording of the one ECC block of its sixteen data frames is written, 37,856 bytes.
use Rattle.std.specs.Prelude.{◌≡◌, ℕ, ◌+◌, ◌-◌, ◌*◌, Option, Some, None, List, [], ◌∷◌, ◌++◌, map, length, take, drop, replicate, slice_get}
use Rattle.std.specs.List.{range_with_len}
use Rattle.dvd_frame.specs.Id.{id_word}
use Rattle.dvd_frame.specs.Frame.{data_frame}
use Rattle.dvd_frame.specs.declared.id.Area.{Area}
use Rattle.dvd_frame.specs.declared.id.Area.TheVariants.{DataZone, LeadIn, LeadOut, Middle}
use Rattle.coding.specs.Product.{IsBlockOf}
use Rattle.coding.specs.Recording.{recording}
use Rattle.dvd_layout.specs.Content.{image_from}
use Rattle.dvd_layout.specs.Lengths.{has_two_layers}
use Rattle.dvd_layout.specs.Place.{image_sectors, rule_for}
use Rattle.dvd_layout.specs.Plan.{plan_of}
use Rattle.dvd_layout.specs.declared.entry.BlockPlan.{BlockPlan}
use Rattle.dvd_layout.specs.declared.entry.Content.{Content}
use Rattle.dvd_layout.specs.declared.entry.Content.TheVariants.{Zero, Reference, Control, Image}
use Rattle.dvd_layout.specs.declared.layout.Layout.{Layout}
use Rattle.dvd_layout.specs.declared.layout.Zones.{Zones}
use Rattle.dvd_control.specs.MainData.{main_bytes}
use Rattle.dvd_loop.specs.Machine.{Step, Units, plain_units}
use Rattle.dvd_loop.specs.Machine.Step.{Write}
use Rattle.dvd_loop.specs.declared.ends.UnitKind.{UnitKind}
use Rattle.dvd_loop.specs.declared.ends.UnitKind.TheVariants.{Good}
use Rattle.dvd_commands.specs.Meaning.{Meaning, by_layout}

-- how many bytes of the image a block reads
abbrev pub image_bytes : Layout → BlockPlan → ℕ
image_bytes layout entry = 2048 * image_sectors layout entry.content

-- the bytes of the image that are in a block
abbrev pub image_part : Layout → BlockPlan → List ℕ → List ℕ
image_part layout entry image = take (image_bytes layout entry) (drop (2048 * image_from entry.content) image)

-- its image bytes, filled with zeros to sixteen sectors
abbrev pub filled_block : List ℕ → List ℕ
filled_block own = own ++ replicate (32768 - length own) 0

-- Main Data of frame f of a block, whose sixteen sectors these are
abbrev pub main_for : Content → Layout → BlockPlan → List ℕ → ℕ → List ℕ
main_for (Image sector) layout entry sectors f = take 2048 (drop (2048 * f) sectors)
main_for Zero layout entry sectors f = main_bytes layout entry f
main_for Reference layout entry sectors f = main_bytes layout entry f
main_for Control layout entry sectors f = main_bytes layout entry f

-- CPR_MAI, which is zeros except in the Data Zone
abbrev pub cpr_in : Area → List ℕ → List ℕ
cpr_in DataZone cpr = cpr
cpr_in LeadIn cpr = replicate 6 0
cpr_in LeadOut cpr = replicate 6 0
cpr_in Middle cpr = replicate 6 0

-- frame f of a block
abbrev pub frame_for : Layout → BlockPlan → List ℕ → List ℕ → ℕ → List ℕ
frame_for layout entry cpr sectors f =
    data_frame (id_word entry.area entry.layer (has_two_layers layout.shape) (entry.first + f)) (cpr_in entry.area cpr) (rule_for entry.content f)
    (main_for entry.content layout entry sectors f)

-- the sixteen frames of a block
unfoldable pub frames_of : Layout → BlockPlan → List ℕ → List ℕ → List (List ℕ)
frames_of layout entry cpr sectors = map (frame_for layout entry cpr sectors) (range_with_len 0 16)

-- What is done for block k of the plan: the recording of the one block of its sixteen frames is written.
pub record IsMastered (layout : Layout) (zones : Zones) (cpr : List ℕ) (k : ℕ) (own : List ℕ) (steps : List Step) (kind : UnitKind) : Type 0 where
  pub entry : BlockPlan
  pub is_there : slice_get (plan_of layout zones) k ≡ Some entry
  pub block : List (List ℕ)
  pub is_block : IsBlockOf (frames_of layout entry cpr (filled_block own)) block
  pub writes : steps ≡ Write (recording block) ∷ []
  pub good : kind ≡ Good

-- how many bytes of the image an entry of the plan reads, and 0 where there is no entry
abbrev pub bytes_of_entry : Layout → Option BlockPlan → ℕ
bytes_of_entry layout None = 0
bytes_of_entry layout (Some entry) = image_bytes layout entry

-- how many bytes of the image block k reads: those of the image sectors in it
abbrev pub bytes_of_block : Layout → Zones → ℕ → ℕ
bytes_of_block layout zones k = bytes_of_entry layout (slice_get (plan_of layout zones) k)

-- the units are the blocks of the plan, each with its image bytes
abbrev pub master_units : Layout → Zones → List ℕ → Units
master_units layout zones cpr = plain_units (length (plan_of layout zones)) (bytes_of_block layout zones) (IsMastered layout zones cpr)

-- the meaning of `master`: its layout has to break no rule
abbrev pub master_meaning : Meaning
master_meaning = by_layout (λ settings layout. master_units layout settings.zones settings.cpr)
