-- Where image sectors are on the disk, and what an entry of a plan says of its data frames.
use Rattle.std.specs.Prelude.{ℕ, ◌+◌, ◌-◌, ◌<◌, ◌^◌, ◌==◌, nat_lt, min, List, sum_by, if◌then◌else◌}
use Rattle.dvd_frame.specs.declared.scrambling.Rule.{Rule}
use Rattle.dvd_frame.specs.declared.scrambling.Rule.TheVariants.{Whole, Off, First160}
use Rattle.dvd_layout.specs.declared.entry.BlockPlan.{BlockPlan}
use Rattle.dvd_layout.specs.declared.entry.Content.{Content}
use Rattle.dvd_layout.specs.declared.entry.Content.TheVariants.{Zero, Reference, Control, Image}
use Rattle.dvd_layout.specs.declared.layout.Layout.{Layout}
use Rattle.dvd_layout.specs.Lengths.{data_first}
use Rattle.dvd_layout.specs.Plan.{second_first}

-- the image sectors of both layers
abbrev pub total_sectors : Layout → ℕ
total_sectors layout = layout.sectors0 + layout.sectors1

-- how many image sectors a block of this content holds: sixteen, or what is left of the image
abbrev pub image_sectors : Layout → Content → ℕ
image_sectors layout (Image sector) = min 16 (total_sectors layout - sector)
image_sectors layout Zero = 0
image_sectors layout Reference = 0
image_sectors layout Control = 0

-- the image sectors of all these blocks
abbrev pub image_before : Layout → List BlockPlan → ℕ
image_before layout entries = sum_by (λ entry. image_sectors layout entry.content) entries

-- the layer and the sector number of an image sector: those of layer 0 come first
abbrev pub place_of : Layout → ℕ → ℕ × ℕ
place_of layout sector =
    if nat_lt sector layout.sectors0 then (0, data_first + sector) else (1, second_first layout + (sector - layout.sectors0))

-- the sector numbers of an entry's sixteen frames have 24 bits, and its layer is one of two
pub record HasNumbers (entry : BlockPlan) : Type 0 where
  pub numbers : entry.first + 15 < 2 ^ 24
  pub layers : entry.layer < 2

-- Which Main Data bytes of frame f are scrambled: all of them, except in the reference code, where only the first 160
-- of the first frame of each block are (ECMA-267, Reference Code Zone).
abbrev pub rule_for : Content → ℕ → Rule
rule_for Reference f = if f == 0 then First160 else Off
rule_for Zero f = Whole
rule_for Control f = Whole
rule_for (Image sector) f = Whole
