-- Identification data (ECMA-267, 16.1) and their error detection code, the IED (16.2).
use Rattle.std.specs.Prelude.{◌≡◌, ℕ, ◌+◌, ◌*◌, ◌^◌, ◌==◌, ◌&&◌, bit_and, Bool, if◌then◌else◌, List, [], ◌∷◌, ◌++◌, map, find}
use Rattle.std.specs.Int.{to_be_bytes, w32}
use Rattle.std.specs.List.{flat_map, range_with_len}
use Rattle.std.specs.Option.{unwrap_or}
use Rattle.coding.specs.Field.{alpha}
use Rattle.coding.specs.Words.{value}
use Rattle.dvd_frame.specs.declared.id.Area.{Area}
use Rattle.dvd_frame.specs.declared.id.Area.TheVariants.{DataZone, LeadIn, LeadOut, Middle}

-- bits b27 and b26
abbrev pub area_number : Area → ℕ
area_number DataZone = 0
area_number LeadIn = 1
area_number LeadOut = 2
area_number Middle = 3

-- The word of a read-only disk with constant linear velocity and pits. b29 is set where the disk is dim, that is,
-- reflects 40 % or less; b24 is the layer, and b23 to b0 are the sector number.
abbrev pub id_word : Area → ℕ → Bool → ℕ → ℕ
id_word area layer dim number = (if dim then 2 ^ 29 else 0) + 2 ^ 26 * area_number area + 2 ^ 24 * layer + number

-- the four bytes of a word, the most significant first
abbrev pub word_bytes : ℕ → List ℕ
word_bytes word = to_be_bytes w32 word

-- Two IDs name the same place on a disk: their areas, layers and sector numbers agree.
-- The other bits say nothing of the place, and a reader doesn't compare them.
abbrev pub IsSamePlace : ℕ → ℕ → Type 0
IsSamePlace word other = bit_and word 0x0DFFFFFF ≡ bit_and other 0x0DFFFFFF

-- the same, as a test: whether two IDs agree in all bits of the place
abbrev pub is_same_place : ℕ → ℕ → Bool
is_same_place word other = bit_and word 0x0DFFFFFF == bit_and other 0x0DFFFFFF

-- six bytes vanish at alpha^0 and alpha^1, as a codeword of six bytes with two parity bytes does
abbrev pub has_check : List ℕ → Bool
has_check six = (value six 1 == 0) && (value six alpha == 0)

-- every pair of bytes
unfoldable pub all_pairs : List (List ℕ)
all_pairs = flat_map (λ first. map (λ second. first ∷ second ∷ []) (range_with_len 0 256)) (range_with_len 0 256)

-- The IED: of all pairs of bytes the one with which the ID is a codeword; there is exactly one.
-- A formula would be the code once more.
-- The code doesn't search: it encodes the ID with the code of six bytes and two parity bytes.
unfoldable pub ied_of : ℕ → List ℕ
ied_of word = unwrap_or (find (λ pair. has_check (word_bytes word ++ pair)) all_pairs) []
