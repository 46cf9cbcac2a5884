-- The zone table of a disk and the plan of its ECC blocks (ECMA-267, section 5, Format of the Information Zone).
-- A table is a list of zones; a plan is the list of the blocks of its zones, one after the other. The code computes one
-- entry without a list.
use Rattle.std.specs.Prelude.{◌≡◌, ℕ, ◌+◌, ◌-◌, ◌*◌, List, [], ◌∷◌, ◌++◌, map, Bool, true, false, filter, if◌then◌else◌, Some, slice_get}
use Rattle.std.specs.List.{flat_map, range_with_len}
use Rattle.dvd_frame.specs.declared.id.Area.{Area}
use Rattle.dvd_frame.specs.declared.id.Area.TheVariants.{DataZone, LeadIn, LeadOut, Middle}
use Rattle.dvd_layout.specs.declared.entry.BlockPlan.{BlockPlan}
use Rattle.dvd_layout.specs.declared.entry.Content.{Content}
use Rattle.dvd_layout.specs.declared.entry.Content.TheVariants.{Zero, Reference, Control, Image}
use Rattle.dvd_layout.specs.declared.layout.Layout.{Layout}
use Rattle.dvd_layout.specs.declared.layout.Shape.{Shape}
use Rattle.dvd_layout.specs.declared.layout.Shape.TheVariants.{Single, Parallel, Opposite}
use Rattle.dvd_layout.specs.declared.layout.Zones.{Zones}
use Rattle.dvd_layout.specs.declared.layout.Zones.TheVariants.{DataOnly, All}
use Rattle.dvd_layout.specs.declared.zone.Zone.{Zone}
use Rattle.dvd_layout.specs.Content.{content_at}
use Rattle.dvd_layout.specs.Lengths.{blocks_of, data_first, is_opposite, padded}

-- block b of a zone
abbrev pub entry_of : Zone → ℕ → BlockPlan
entry_of zone b = record { first = zone.first + 16 * b; area = zone.area; layer = zone.layer; content = content_at zone.content b }

-- the blocks of a zone
abbrev pub entries_of : Zone → List BlockPlan
entries_of zone = map (entry_of zone) (range_with_len 0 zone.blocks)

-- the zone of these numbers, area and content
abbrev pub zone_of : ℕ → ℕ → Area → ℕ → Content → Zone
zone_of first blocks area layer content = record { first = first; blocks = blocks; area = area; layer = layer; content = content }

-- the zones of the lead-in of a layer, with an Initial Zone of `initial` blocks
abbrev pub lead_in : ℕ → ℕ → List Zone
lead_in initial layer =
    zone_of (0x2F000 - 16 * initial) initial LeadIn layer Zero
    ∷ zone_of 0x2F000 2 LeadIn layer Reference
    ∷ zone_of 0x2F020 30 LeadIn layer Zero
    ∷ zone_of 0x2F200 192 LeadIn layer Control
    ∷ zone_of 0x2FE00 32 LeadIn layer Zero ∷ []

-- the blocks of the lead-in of layer 0, zone after zone
unfoldable pub lead_in_blocks : ℕ → List BlockPlan
lead_in_blocks initial = flat_map entries_of (lead_in initial 0)

-- Where the data of layer 1 begin: at 030000, or on the opposite track path at the complement of layer 0's last data
-- sector.
abbrev pub second_first : Layout → ℕ
second_first layout = if is_opposite layout.shape then 0xFD0000 - padded layout.sectors0 else data_first

-- the Data Zone of layer 0
abbrev pub first_data : Layout → Zone
first_data layout = zone_of data_first (blocks_of layout.sectors0) DataZone 0 (Image 0)

-- the Data Zone of layer 1, whose image sectors follow those of layer 0
abbrev pub second_data : Layout → Zone
second_data layout = zone_of (second_first layout) (blocks_of layout.sectors1) DataZone 1 (Image layout.sectors0)

-- the zone of zeros after a Data Zone
abbrev pub zone_after : Zone → ℕ → Area → Zone
zone_after image blocks area = zone_of (image.first + 16 * image.blocks) blocks area image.layer Zero

-- a layer that is read from the inside
abbrev pub inside_out : Layout → Zone → List Zone
inside_out layout image = lead_in layout.initial image.layer ++ image ∷ zone_after image layout.tail LeadOut ∷ []

-- the opposite track path: out on layer 0, and back in on layer 1
abbrev pub out_and_in : Layout → List Zone
out_and_in layout =
    lead_in layout.initial 0
    ++ first_data layout
    ∷ zone_after (first_data layout) layout.tail Middle
    ∷ zone_of (second_first layout - 16 * layout.tail) layout.tail Middle 1 Zero
    ∷ second_data layout
    ∷ zone_after (second_data layout) layout.tail LeadOut ∷ []

-- the zones of a disk of this shape, in the order of a stream
abbrev pub zones_by : Layout → Shape → List Zone
zones_by layout Single = inside_out layout (first_data layout)
zones_by layout Parallel = inside_out layout (first_data layout) ++ inside_out layout (second_data layout)
zones_by layout Opposite = out_and_in layout

-- whether this is a Data Zone
abbrev pub is_data : Area → Bool
is_data DataZone = true
is_data LeadIn = false
is_data LeadOut = false
is_data Middle = false

-- the zones that a stream holds
abbrev pub zone_table : Layout → Zones → List Zone
zone_table layout All = zones_by layout layout.shape
zone_table layout DataOnly = filter (λ zone. is_data zone.area) (zones_by layout layout.shape)

-- the blocks of a stream, zone after zone
unfoldable pub plan_of : Layout → Zones → List BlockPlan
plan_of layout zones = flat_map entries_of (zone_table layout zones)

-- an entry of a plan of this layout
pub record IsEntry (layout : Layout) (entry : BlockPlan) : Type 0 where
  pub zones : Zones
  pub place : ℕ
  pub is_there : slice_get (plan_of layout zones) place ≡ Some entry
