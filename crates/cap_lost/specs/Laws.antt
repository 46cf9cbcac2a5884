-- What holds of what every report says.
use Rattle.std.specs.Prelude.{◌≡◌, ◌⊎◌, ◌↔◌, ℕ, ◌+◌, ◌≤◌, ◌<◌, List, [], ◌∷◌, Ok}
use Rattle.cap_map.specs.Fields.{lines_of}
use Rattle.dvd_layout.specs.Place.{total_sectors}
use Rattle.dvd_layout.specs.declared.layout.Layout.{Layout}
use Rattle.dvd_layout.specs.declared.layout.Zones.{Zones}
use Rattle.cap_lost.specs.Map.{last_end}
use Rattle.cap_lost.specs.Report.{Losses, line_said, losses_of}
use Rattle.cap_lost.specs.declared.draft.Said.TheVariants.{Refused}
use Rattle.cap_lost.specs.declared.extent.Extent.{Extent}

-- a sector is one of this extent
abbrev pub IsInExtent : Extent → ℕ → Type 0
IsInExtent extent sector = (extent.from ≤ sector) × (sector < extent.to)

-- a sector is one of these extents
abbrev pub IsLost : List Extent → ℕ → Type 0
IsLost [] sector = ⊥
IsLost (extent ∷ extents) sector = IsInExtent extent sector ⊎ IsLost extents sector

-- a line says that the block of this sector is refused
abbrev pub RefusesBlockOf : Layout → Zones → ℕ → List ℕ → Type 0
RefusesBlockOf layout zones sector line = (extent : Extent) × (line_said layout zones line ≡ Ok (Refused extent)) × IsInExtent extent sector

-- one of these lines says that
abbrev pub OneRefusesBlockOf : Layout → Zones → ℕ → List (List ℕ) → Type 0
OneRefusesBlockOf layout zones sector [] = ⊥
OneRefusesBlockOf layout zones sector (line ∷ lines) = RefusesBlockOf layout zones sector line ⊎ OneRefusesBlockOf layout zones sector lines

-- A sector is lost exactly where a line says that its block is refused.
abbrev pub LostAreThoseOfRefusedBlocks : Type 0
LostAreThoseOfRefusedBlocks =
    (layout : Layout) (zones : Zones) (text : List ℕ) (losses : Losses) (sector : ℕ) → losses_of layout zones text ≡ Ok losses
    → IsLost losses.extents sector ↔ OneRefusesBlockOf layout zones sector (lines_of text)

-- Each has at least one sector. The first begins at this sector or after it, and each other one after the end of the
-- one before.
abbrev pub AreApart : ℕ → List Extent → Type 0
AreApart from [] = Unit {0}
AreApart from (extent ∷ extents) = (from ≤ extent.from) × (extent.from < extent.to) × AreApart (extent.to + 1) extents

-- The extents are in order and don't touch. They end within what was written, and that within the image.
abbrev pub LossesAreInOrder : Type 0
LossesAreInOrder =
    (layout : Layout) (zones : Zones) (text : List ℕ) (losses : Losses) → losses_of layout zones text ≡ Ok losses
    → AreApart 0 losses.extents × (last_end 0 losses.extents ≤ losses.written) × (losses.written ≤ total_sectors layout)
