-- The laws of every physical format.
use Rattle.std.specs.Prelude.{◌≡◌, ℕ, ◌+◌, ◌-◌, ◌==◌, ◌&&◌, List, length, filter, None, Some, option_map, slice_get}
use Rattle.std.specs.declared.option.Option.{Option}
use Rattle.dvd_layout.specs.declared.entry.BlockPlan.{BlockPlan}
use Rattle.dvd_layout.specs.declared.layout.Layout.{Layout}
use Rattle.dvd_layout.specs.declared.layout.Shape.{Shape}
use Rattle.dvd_layout.specs.declared.layout.Shape.TheVariants.{Single, Parallel, Opposite}
use Rattle.dvd_layout.specs.declared.layout.Zones.TheVariants.{All}
use Rattle.dvd_layout.specs.Plan.{is_data, plan_of}
use Rattle.dvd_control.specs.declared.format.PhysicalFormat.{PhysicalFormat}
use Rattle.dvd_control.specs.Format.{HasLeadIn, control_fault, fields_for, fields_in, fields_of, format_bytes}

-- a sector that is written breaks no rule
abbrev pub WrittenFormatsAreValid : Type 0
WrittenFormatsAreValid = (format : PhysicalFormat) → control_fault (format_bytes (fields_of format)) ≡ None

-- what is written is read back
abbrev pub WrittenFormatsAreReadBack : Type 0
WrittenFormatsAreReadBack = (format : PhysicalFormat) → fields_in (format_bytes (fields_of format)) ≡ fields_of format

-- the blocks of the plan in the Data Zone of a layer
abbrev pub data_blocks : Layout → ℕ → List BlockPlan
data_blocks layout layer = filter (λ entry. is_data entry.area && (entry.layer == layer)) (plan_of layout All)

-- the last of these blocks
abbrev pub last_block : List BlockPlan → Option BlockPlan
last_block blocks = slice_get blocks (length blocks - 1)

-- the layer on which the Data Zone ends that the lead-in of a layer describes: on the opposite track path, layer 1
abbrev pub ends_on : Shape → ℕ → ℕ
ends_on Single layer = layer
ends_on Parallel layer = layer
ends_on Opposite layer = 1

-- the last sector that a format names is that of the last frame of the plan's last data block
abbrev pub FormatNamesTheLastSector : Type 0
FormatNamesTheLastSector =
    (layout : Layout) (layer : ℕ) → HasLeadIn layout.shape layer
    → option_map (λ entry. entry.first + 15) (last_block (data_blocks layout (ends_on layout.shape layer))) ≡ Some (fields_for layout layer).last
