-- Ours: the header of a listed capture, 32 bytes that state its layout.
use Rattle.std.specs.Prelude.{◌≡◌, ℕ, ◌<◌, ◌==◌, nat_le, nat_lt, Bool, true, false, if◌then◌else◌, ◌||◌, List, [], ◌∷◌, ◌++◌, slice_index}
use Rattle.std.specs.Int.{to_be_bytes, w32}
use Rattle.dvd_capture.specs.declared.header.Header.{Header}

-- the eight bytes that each begins with: the letters DVDECC, and the number of the form
abbrev pub initial_bytes : List ℕ
initial_bytes = 0x44 ∷ 0x56 ∷ 0x44 ∷ 0x45 ∷ 0x43 ∷ 0x43 ∷ 0 ∷ 2 ∷ []

-- These eight, then shape and zones, two zeros, the four numbers of four bytes each, the first byte the most
-- significant, and four zeros.
unfoldable pub header_bytes : Header → List ℕ
header_bytes header =
    initial_bytes ++ header.shape ∷ header.zones ∷ 0 ∷ 0
    ∷ to_be_bytes w32 header.sectors0 ++ to_be_bytes w32 header.sectors1
    ++ to_be_bytes w32 header.initial ++ to_be_bytes w32 header.tail
    ++ 0 ∷ 0 ∷ 0 ∷ 0 ∷ []

-- whether a header may have this byte at a place: three shapes, two zones, any numbers, and the others as they are
unfoldable pub may_be_there : ℕ → ℕ → Bool
may_be_there place byte =
    if nat_lt place 8 then byte == slice_index initial_bytes place
    else if place == 8 then nat_lt byte 3
    else if place == 9 then nat_lt byte 2
    else if nat_lt place 12 || nat_le 28 place then byte == 0
    else true

-- each byte is allowed at its place
abbrev pub IsHeader : List ℕ → Type 0
IsHeader bytes = (place : ℕ) → place < 32 → may_be_there place (slice_index bytes place) ≡ true

-- the first byte that isn't allowed at its place
pub record IsFirstWrongByte (bytes : List ℕ) (at : ℕ) : Type 0 where
  pub within : at < 32
  pub wrong : may_be_there at (slice_index bytes at) ≡ false
  pub before : (place : ℕ) → place < at → may_be_there place (slice_index bytes place) ≡ true
