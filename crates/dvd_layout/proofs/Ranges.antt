-- Every zone of a valid layout has sector numbers and image sectors of 24 bits.
use Rattle.std.proofs.Common.{◌≡◌, ℕ, ◌+◌, ◌-◌, ◌*◌, ◌<◌, ◌≤◌, ◌^◌, Bool, true, false, if◌then◌else◌, List, [], ◌∷◌, ◌++◌, All, arith, refl}
use Rattle.std.specs.List.{AllByRecursion}
use Rattle.std.proofs.lemmas.List.Elements.{All-from_recursion}
use Rattle.dvd_frame.specs.declared.id.Area.{Area}
use Rattle.dvd_layout.specs.declared.entry.Content.TheVariants.{Zero, Reference, Control}
use Rattle.dvd_frame.specs.declared.id.Area.TheVariants.{LeadIn, LeadOut, Middle}
use Rattle.dvd_layout.specs.Content.{image_from}
use Rattle.dvd_layout.specs.declared.layout.Layout.{Layout}
use Rattle.dvd_layout.specs.declared.layout.Shape.{Shape}
use Rattle.dvd_layout.specs.declared.layout.Shape.TheVariants.{Single, Parallel, Opposite}
use Rattle.dvd_layout.specs.declared.layout.Zones.{Zones}
use Rattle.dvd_layout.specs.declared.zone.Zone.{Zone}
use Rattle.dvd_layout.specs.Place.{HasNumbers}
use Rattle.dvd_layout.proofs.Blocks.{entries_of-each, plan_of-each, zone_table-each, zones-each}
use Rattle.dvd_layout.specs.Lengths.{is_opposite, padded}
use Rattle.dvd_layout.specs.Plan.{entries_of, lead_in_blocks, plan_of, zone_of, second_first, zone_after, lead_in, inside_out, out_and_in, first_data, second_data, zones_by, zone_table}
use Rattle.dvd_layout.specs.Inner.Ranges.{IsInRange}

-- all these zones are in range
abbrev Each : List Zone → Type 0
Each zones = AllByRecursion IsInRange zones

-- joined lists of zones in range are in range
each-append : (some others : List Zone) → Each some → Each others → Each (some ++ others)
each-append [] others each rest = rest
each-append (zone ∷ some) others each rest = (each.0, each-append some others each.1 rest)

-- a zone without image sectors
zeros-in_range : (zone : Zone) → image_from zone.content ≡ 0 → zone.first + 16 * zone.blocks ≤ 2 ^ 24 → zone.layer < 2 → IsInRange zone
zeros-in_range zone no_image numbers two = record { numbers = numbers; image = omega arith; layers = two }

-- the zones of a lead-in are in range
lead_in-in_range : (initial layer : ℕ) → initial ≤ 12031 → layer < 2 → Each (lead_in initial layer)
lead_in-in_range initial layer fits two = (
  zeros-in_range (zone_of (0x2F000 - 16 * initial) initial LeadIn layer Zero) refl (omega arith) two,
  (
    zeros-in_range (zone_of 0x2F000 2 LeadIn layer Reference) refl (omega arith) two,
    (
      zeros-in_range (zone_of 0x2F020 30 LeadIn layer Zero) refl (omega arith) two,
      (
        zeros-in_range (zone_of 0x2F200 192 LeadIn layer Control) refl (omega arith) two,
        (zeros-in_range (zone_of 0x2FE00 32 LeadIn layer Zero) refl (omega arith) two, tt),
      ),
    ),
  ),
)

-- the zones of the lead-in of layer 0 are in range, each as an element of their list
pub zones-of_lead_in : (initial : ℕ) → initial ≤ 12031 → All IsInRange (lead_in initial 0)
zones-of_lead_in initial fits = All-from_recursion IsInRange (lead_in initial 0) (lead_in-in_range initial 0 fits (omega arith))

-- the Data Zone of layer 0 is in range
first_data-in_range : (layout : Layout) → IsInRange (first_data layout)
first_data-in_range layout = record { numbers = omega arith; image = omega arith; layers = omega arith }

-- the data of layer 1 and the zone after them end within 24 bits
second_first-low : (layout : Layout) → second_first layout + padded layout.sectors1 + 16 * layout.tail ≤ 2 ^ 24
second_first-low layout = by_path (is_opposite layout.shape) refl where
  by_path : (opposite : Bool) → is_opposite layout.shape ≡ opposite
      → (if opposite then 0xFD0000 - padded layout.sectors0 else 0x30000) + padded layout.sectors1 + 16 * layout.tail ≤ 2 ^ 24
  by_path true is = let no_longer = layout.no_longer is in omega arith
  by_path false is = omega arith

-- the Data Zone of layer 1 is in range
second_data-in_range : (layout : Layout) → IsInRange (second_data layout)
second_data-in_range layout =
    let low = second_first-low layout in
    record { numbers = omega arith; image = omega arith; layers = omega arith }

-- the zone of zeros after a Data Zone is in range where its end is
zone_after-in_range : (image : Zone) (blocks : ℕ) (area : Area) → image.first + 16 * image.blocks + 16 * blocks ≤ 2 ^ 24 → image.layer < 2
    → IsInRange (zone_after image blocks area)
zone_after-in_range image blocks area numbers two = zeros-in_range (zone_after image blocks area) refl numbers two

-- a layer that is read from the inside is in range where its Data Zone is
inside_out-in_range : (layout : Layout) (image : Zone) → IsInRange image → image.first + 16 * image.blocks + 16 * layout.tail ≤ 2 ^ 24
    → Each (inside_out layout image)
inside_out-in_range layout image range numbers =
    each-append (lead_in layout.initial image.layer) (image ∷ zone_after image layout.tail LeadOut ∷ [])
    (lead_in-in_range layout.initial image.layer layout.initial_fits range.layers)
    (range, (zone_after-in_range image layout.tail LeadOut numbers range.layers, tt))

-- so is layer 0
first_layer-in_range : (layout : Layout) → Each (inside_out layout (first_data layout))
first_layer-in_range layout = inside_out-in_range layout (first_data layout) (first_data-in_range layout) (omega arith)

-- and layer 1 on the parallel track path
second_layer-in_range : (layout : Layout) → Each (inside_out layout (second_data layout))
second_layer-in_range layout =
    let low = second_first-low layout in
    inside_out-in_range layout (second_data layout) (second_data-in_range layout) (omega arith)

-- the zones of the opposite track path are in range
out_and_in-in_range : (layout : Layout) → Each (out_and_in layout)
out_and_in-in_range layout =
    let low = second_first-low layout in
    let middle = zone_of (second_first layout - 16 * layout.tail) layout.tail Middle 1 Zero in
    each-append (lead_in layout.initial 0)
    (first_data layout ∷ zone_after (first_data layout) layout.tail Middle ∷ middle ∷ second_data layout ∷ zone_after (second_data layout) layout.tail LeadOut ∷ [])
    (lead_in-in_range layout.initial 0 layout.initial_fits (omega arith)) (
      first_data-in_range layout,
      (
        zone_after-in_range (first_data layout) layout.tail Middle (omega arith) (omega arith),
        (
          zeros-in_range middle refl (omega arith) (omega arith),
          (
            second_data-in_range layout,
            (zone_after-in_range (second_data layout) layout.tail LeadOut (omega arith) (omega arith), tt),
          ),
        ),
      ),
    )

-- all zones of a disk are in range
zones_by-in_range : (layout : Layout) (shape : Shape) → Each (zones_by layout shape)
zones_by-in_range layout Single = first_layer-in_range layout
zones_by-in_range layout Parallel = each-append (inside_out layout (first_data layout)) (inside_out layout (second_data layout)) (first_layer-in_range layout) (second_layer-in_range layout)
zones_by-in_range layout Opposite = out_and_in-in_range layout

-- and so those of a stream
pub zone_table-in_range : (layout : Layout) (zones : Zones) → All IsInRange (zone_table layout zones)
zone_table-in_range layout zones = zone_table-each IsInRange layout zones (zones_by-in_range layout layout.shape)

-- each block of a zone in range has numbers of 24 bits
entries_of-numbers : (zone : Zone) → IsInRange zone → All HasNumbers (entries_of zone)
entries_of-numbers zone range =
    entries_of-each HasNumbers zone
    (λ b inside. let numbers = range.numbers in record { numbers = omega arith; layers = range.layers })

-- each block of a plan has numbers of 24 bits
pub plan_of-numbers : (layout : Layout) (zones : Zones) → All HasNumbers (plan_of layout zones)
plan_of-numbers layout zones =
    plan_of-each IsInRange HasNumbers entries_of-numbers layout zones (zones_by-in_range layout layout.shape)

-- each block of the lead-in has numbers of 24 bits
pub lead_in_blocks-numbers : (initial : ℕ) → initial ≤ 12031 → All HasNumbers (lead_in_blocks initial)
unfolding lead_in_blocks
lead_in_blocks-numbers initial fits =
    zones-each IsInRange HasNumbers entries_of-numbers (lead_in initial 0) (lead_in-in_range initial 0 fits (omega arith))
