-- The lengths of a disk, and the first rule that they break.
use Rattle.std.specs.Prelude.{ℕ, ◌+◌, ◌*◌, ◌/◌, ◌%◌, Bool, true, false, not, ◌&&◌, ◌==◌, nat_lt, if◌then◌else◌, Some, None}
use Rattle.std.specs.declared.option.Option.{Option}
use Rattle.dvd_layout.specs.declared.layout.Shape.{Shape}
use Rattle.dvd_layout.specs.declared.layout.Shape.TheVariants.{Single, Parallel, Opposite}
use Rattle.dvd_layout.specs.declared.fault.LayoutFault.{LayoutFault}
use Rattle.dvd_layout.specs.declared.fault.LayoutFault.TheVariants.{EmptyLayer, OddLayer, SecondLayer, LayerLonger, InitialTooLong, TailTooLong, LayerTooLong}

-- the ECC blocks that this number of sectors fills, the last one maybe in part
abbrev pub blocks_of : ℕ → ℕ
blocks_of sectors = (sectors + 15) / 16

-- sectors rounded up to whole ECC blocks
abbrev pub padded : ℕ → ℕ
padded sectors = 16 * blocks_of sectors

-- whether a disk of this shape has a layer 1
abbrev pub has_two_layers : Shape → Bool
has_two_layers Single = false
has_two_layers Parallel = true
has_two_layers Opposite = true

-- whether its layer 1 goes on where layer 0 ends, towards the inside
abbrev pub is_opposite : Shape → Bool
is_opposite Single = false
is_opposite Parallel = false
is_opposite Opposite = true

-- the first sector number of the Data Zone of a layer that is read from the inside, 030000
abbrev pub data_first : ℕ
data_first = 0x30000

-- the sector number after a layer that begins at `data_first`: after its data and the zone that follows them
abbrev pub layer_end : ℕ → ℕ → ℕ
layer_end sectors tail = data_first + padded sectors + 16 * tail

-- the longest Initial Zone, in ECC blocks: no sector of it has the number 0
abbrev pub most_initial : ℕ
most_initial = 12031

-- the rule of an Initial Zone alone
abbrev pub initial_fault : ℕ → Option LayoutFault
initial_fault initial = if nat_lt most_initial initial then Some (InitialTooLong initial) else None

-- the first rule that a layout of these lengths breaks
unfoldable pub first_fault : Shape → ℕ → ℕ → ℕ → ℕ → Option LayoutFault
first_fault shape sectors0 sectors1 initial tail =
    if sectors0 == 0 then Some (EmptyLayer 0)
    else if has_two_layers shape && (sectors1 == 0) then Some (EmptyLayer 1)
    else if has_two_layers shape && not (sectors0 % 16 == 0) then Some (OddLayer sectors0)
    else if not (has_two_layers shape) && not (sectors1 == 0) then Some (SecondLayer sectors1)
    else if is_opposite shape && nat_lt (padded sectors0) (padded sectors1) then Some (LayerLonger sectors1)
    else if nat_lt most_initial initial then Some (InitialTooLong initial)
    else if nat_lt 12288 tail then Some (TailTooLong tail)
    else if nat_lt 0x800000 (layer_end sectors0 tail) then Some (LayerTooLong 0 (layer_end sectors0 tail))
    else if nat_lt 0x800000 (layer_end sectors1 tail) then Some (LayerTooLong 1 (layer_end sectors1 tail))
    else None
