-- The map of an image as GNU ddrescue writes it.
use Rattle.std.specs.Prelude.{ℕ, ◌-◌, ◌*◌, ◌^◌, ◌++◌, nat_lt, if◌then◌else◌, List, [], ◌∷◌, codes}
use Rattle.dvd_report.specs.Lines.{hexadecimal}
use Rattle.cap_lost.specs.declared.extent.Extent.{Extent}
use Rattle.cap_lost.specs.declared.map.TheConstants.{HEAD}

-- a number in hexadecimal, of eight digits or nine
abbrev pub number_text : ℕ → List ℕ
number_text n = codes "0x" ++ hexadecimal (if nat_lt n (2 ^ 32) then 8 else 9) n

-- the line of the bytes of these sectors, from one to the one before an end, and of their status; none where there are
-- none
abbrev pub sectors_line : ℕ → ℕ → ℕ → List ℕ
sectors_line from to status =
    if nat_lt from to then number_text (2048 * from) ++ codes "  " ++ number_text (2048 * (to - from)) ++ codes "  " ++ status ∷ 10 ∷ [] else []

-- the lines of extents from this sector on: + before each, and - for its own
abbrev pub extent_lines : ℕ → List Extent → List ℕ
extent_lines at [] = []
extent_lines at (extent ∷ extents) = sectors_line at extent.from 43 ++ sectors_line extent.from extent.to 45 ++ extent_lines extent.to extents

-- the sector after extents, if there are any
abbrev pub last_end : ℕ → List Extent → ℕ
last_end at [] = at
last_end at (extent ∷ extents) = last_end extent.to extents

-- the lines after extents that end before this sector
abbrev pub last_lines : ℕ → ℕ → ℕ → List ℕ
last_lines at written total = sectors_line at written 43 ++ sectors_line written total 63

-- the lines from this sector on
abbrev pub lines_from : ℕ → List Extent → ℕ → ℕ → List ℕ
lines_from at extents written total = extent_lines at extents ++ last_lines (last_end at extents) written total

-- The map of an image of `total` sectors: those of these extents are bad, those from `written` on weren't tried, and
-- all others are rescued.
abbrev pub map_text : List Extent → ℕ → ℕ → List ℕ
map_text extents written total = HEAD.now ++ lines_from 0 extents written total
