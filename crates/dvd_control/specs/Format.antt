-- The physical format sector of the Control Data Zone (ECMA-267, physical format information).
use Rattle.std.specs.Prelude.{◌≡◌, ◌⊎◌, ℕ, ◌+◌, ◌-◌, ◌*◌, ◌/◌, ◌%◌, ◌==◌, nat_lt, Bool, false, not, ◌||◌, if◌then◌else◌, List, [], ◌∷◌, ◌++◌, replicate, slice_index, Some, None}
use Rattle.std.specs.declared.option.Option.{Option}
use Rattle.dvd_layout.specs.declared.layout.Layout.{Layout}
use Rattle.dvd_layout.specs.declared.layout.Shape.{Shape}
use Rattle.dvd_layout.specs.declared.layout.Shape.TheVariants.{Parallel}
use Rattle.dvd_layout.specs.Lengths.{data_first, has_two_layers, is_opposite, padded}
use Rattle.dvd_layout.specs.Plan.{second_first}
use Rattle.dvd_control.specs.declared.format.PhysicalFormat.{PhysicalFormat}
use Rattle.dvd_control.specs.declared.format.ControlFault.{ControlFault}
use Rattle.dvd_control.specs.declared.format.ControlFault.TheVariants.{Category, Size, Layers, Range}

-- What a physical format says, as plain numbers.
pub record Fields : Type 0 where
  -- the version of the format; 1 is the first
  pub version : ℕ
  -- the maximum rate of the channel after the decoder: 0 is 2.52 Mbit/s, 1 is 5.04, 2 is 10.08
  pub rate : ℕ
  -- whether there are two layers, and whether their track path is the opposite one: layer 1 goes on where layer 0 ends
  pub two_layers : Bool
  pub opposite : Bool
  -- the kind of the layers, a bit for each: 1 has embossed data, 2 a recordable and 4 a rewritable area
  pub kind : ℕ
  -- the length of a channel bit: 0 is 0.133 micrometres, 1 is 0.147, as on disks with two layers
  pub density : ℕ
  -- the distance of two tracks: 0 is 0.74 micrometres
  pub pitch : ℕ
  -- the first and the last sector of the Data Zone, and the last one of layer 0 on the opposite track path, or 0
  pub first : ℕ
  pub last : ℕ
  pub layer0_last : ℕ
  -- whether there is a burst cutting area, a bar code inside of the lead-in
  pub bca : Bool

-- the numbers of a physical format
abbrev pub fields_of : PhysicalFormat → Fields
fields_of format = record {
  version = format.version;
  rate = format.rate;
  two_layers = format.two_layers;
  opposite = format.opposite;
  kind = format.kind;
  density = format.density;
  pitch = format.pitch;
  first = format.first;
  last = format.last;
  layer0_last = format.layer0_last;
  bca = format.bca;
}

-- a sector number in three bytes, the most significant first
abbrev pub three_bytes : ℕ → List ℕ
three_bytes number = number / 65536 ∷ number / 256 % 256 ∷ number % 256 ∷ []

-- the sector number in the three bytes from i on
abbrev pub number_at : List ℕ → ℕ → ℕ
number_at bytes i = 65536 * slice_index bytes i + 256 * slice_index bytes (i + 1) + slice_index bytes (i + 2)

-- Bytes 0 to 16: category 0 (read-only) and version; size 0 (120 mm) and maximum rate; layers, track path and kind;
-- channel bit length and track pitch; the first and the last sector of the Data Zone; the last of layer 0 on the
-- opposite track path; whether there is a burst cutting area.
abbrev pub head_bytes : Fields → List ℕ
head_bytes format =
    format.version ∷ format.rate
    ∷ ((if format.two_layers then 32 else 0) + (if format.opposite then 16 else 0) + format.kind)
    ∷ (16 * format.density + format.pitch)
    ∷ 0 ∷ three_bytes format.first
    ++ 0 ∷ three_bytes format.last
    ++ 0 ∷ three_bytes format.layer0_last
    ++ (if format.bca then 128 else 0) ∷ []

-- the whole sector: zeros follow
unfoldable pub format_bytes : Fields → List ℕ
format_bytes format = head_bytes format ++ replicate 2031 0

-- what a sector says; the other bits aren't read
unfoldable pub fields_in : List ℕ → Fields
fields_in bytes = record {
  version = slice_index bytes 0 % 16;
  rate = slice_index bytes 1 % 16;
  two_layers = slice_index bytes 2 / 32 % 4 == 1;
  opposite = slice_index bytes 2 / 16 % 2 == 1;
  kind = slice_index bytes 2 % 16;
  density = slice_index bytes 3 / 16;
  pitch = slice_index bytes 3 % 16;
  first = number_at bytes 5;
  last = number_at bytes 9;
  layer0_last = number_at bytes 13;
  bca = slice_index bytes 16 / 128 == 1;
}

-- the first rule that a sector breaks: a category or a size that isn't 0, more than two layers, or a Data Zone that
-- doesn't begin at 030000 or ends before it begins
unfoldable pub control_fault : List ℕ → Option ControlFault
control_fault bytes =
    if nat_lt 15 (slice_index bytes 0) then Some (Category (slice_index bytes 0))
    else if nat_lt 15 (slice_index bytes 1) then Some (Size (slice_index bytes 1))
    else if nat_lt 1 (slice_index bytes 2 / 32 % 4) then Some (Layers (slice_index bytes 2))
    else if not (number_at bytes 5 == data_first) || nat_lt (number_at bytes 9) (number_at bytes 5) then Some (Range (number_at bytes 5) (number_at bytes 9))
    else None

-- The physical format in the lead-in of a layer: version 1, 10.08 Mbit/s, no burst cutting area. The last sector is
-- that of this layer, or on the opposite track path that of layer 1.
unfoldable pub fields_for : Layout → ℕ → Fields
fields_for layout layer = record {
  version = 1;
  rate = 2;
  two_layers = has_two_layers layout.shape;
  opposite = is_opposite layout.shape;
  kind = 1;
  density = (if has_two_layers layout.shape then 1 else 0);
  pitch = 0;
  first = data_first;
  last = (if is_opposite layout.shape then second_first layout + padded layout.sectors1 - 1
      else data_first + padded (if layer == 0 then layout.sectors0 else layout.sectors1) - 1);
  layer0_last = (if is_opposite layout.shape then data_first + padded layout.sectors0 - 1 else 0);
  bca = false;
}

-- a layer with a lead-in: layer 0, and layer 1 where its track is read from the inside
abbrev pub HasLeadIn : Shape → ℕ → Type 0
HasLeadIn shape layer = (layer ≡ 0) ⊎ ((layer ≡ 1) × (shape ≡ Parallel))
