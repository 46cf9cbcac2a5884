-- The laws of every valid layout.
use Rattle.std.specs.Prelude.{◌≡◌, ◌≢◌, ℕ, ◌+◌, ◌*◌, ◌<◌, All as EachOf, None, Some, slice_get, take}
use Rattle.dvd_frame.specs.declared.id.Area.TheVariants.{LeadIn}
use Rattle.dvd_layout.specs.declared.entry.BlockPlan.{BlockPlan}
use Rattle.dvd_layout.specs.declared.entry.Content.TheVariants.{Control, Image}
use Rattle.dvd_layout.specs.declared.layout.Layout.{Layout}
use Rattle.dvd_layout.specs.declared.layout.Zones.{Zones}
use Rattle.dvd_layout.specs.declared.layout.Zones.TheVariants.{All}
use Rattle.dvd_layout.specs.Content.{IsImage, image_from}
use Rattle.dvd_layout.specs.Lengths.{first_fault}
use Rattle.dvd_layout.specs.Place.{HasNumbers, image_before, place_of, total_sectors}
use Rattle.dvd_layout.specs.Plan.{lead_in_blocks, plan_of}

-- a layout breaks no rule
abbrev pub LayoutsBreakNoRule : Type 0
LayoutsBreakNoRule = (layout : Layout) → first_fault layout.shape layout.sectors0 layout.sectors1 layout.initial layout.tail ≡ None

-- two layouts of the same lengths are the same
abbrev pub LayoutIsByLengths : Type 0
LayoutIsByLengths =
    (a b : Layout) → a.shape ≡ b.shape → a.sectors0 ≡ b.sectors0 → a.sectors1 ≡ b.sectors1 → a.initial ≡ b.initial → a.tail ≡ b.tail
    → a ≡ b

-- every sector number of a plan has 24 bits, those of the last frames of its blocks too, and every layer is one of two
abbrev pub PlanNumbersHave24Bits : Type 0
PlanNumbersHave24Bits = (layout : Layout) (zones : Zones) → EachOf HasNumbers (plan_of layout zones)

-- The control data of a disk are 192 blocks from sector 02F200 on, after the Initial Zone and 32 more blocks. No block
-- before them is one of theirs.
pub record ControlDataIsInTheLeadIn (initial : ℕ) : Type 0 where
  pub stand : (c : ℕ) → c < 192
      → slice_get (lead_in_blocks initial) (initial + 32 + c) ≡ Some (record { first = 0x2F200 + 16 * c; area = LeadIn; layer = 0; content = Control })
  pub none_before : (k : ℕ) (entry : BlockPlan) → k < initial + 32 → slice_get (lead_in_blocks initial) k ≡ Some entry → entry.content ≢ Control

-- The plan of a disk begins with its lead-in.
abbrev pub PlanBeginsWithTheLeadIn : Type 0
PlanBeginsWithTheLeadIn = (layout : Layout) → take (layout.initial + 256) (plan_of layout All) ≡ lead_in_blocks layout.initial

-- no two image sectors have one place
abbrev pub PlacesDiffer : Type 0
PlacesDiffer =
    (layout : Layout) (a b : ℕ) → a < total_sectors layout → b < total_sectors layout
    → place_of layout a ≡ place_of layout b → a ≡ b

-- the blocks before a block of image hold exactly the image sectors before its first
abbrev pub ImageIsInOrder : Type 0
ImageIsInOrder =
    (layout : Layout) (zones : Zones) (k : ℕ) (entry : BlockPlan)
    → slice_get (plan_of layout zones) k ≡ Some entry → IsImage entry.content
    → image_before layout (take k (plan_of layout zones)) ≡ image_from entry.content

-- the blocks of a plan hold the whole image
abbrev pub ImageIsWhole : Type 0
ImageIsWhole = (layout : Layout) (zones : Zones) → image_before layout (plan_of layout zones) ≡ total_sectors layout

-- the image sectors of a block are at the block's sector numbers, one after the other
abbrev pub PlanFollowsPlaces : Type 0
PlanFollowsPlaces =
    (layout : Layout) (zones : Zones) (k from f : ℕ) (entry : BlockPlan)
    → slice_get (plan_of layout zones) k ≡ Some entry → entry.content ≡ Image from → f < 16 → from + f < total_sectors layout
    → place_of layout (from + f) ≡ (entry.layer, entry.first + f)
