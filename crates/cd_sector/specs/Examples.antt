-- Worked values from outside the program.
use Rattle.std.specs.Prelude.{◌≡◌, [], ◌∷◌, refl}
use Rattle.coding.specs.BitDivision.{plus_prefix, remainder_by}
use Rattle.cd_sector.specs.Bits.{rising_bits, rising_bits_of, rising_number}
use Rattle.cd_sector.specs.Edc.{cd_edc_of}
use Rattle.cd_sector.specs.Sector.{header}
use Rattle.cd_sector.specs.Words.{sector_place}

-- the EDC of one byte 80, the least significant byte first
edc-80 : cd_edc_of (0x80 ∷ []) ≡ 0x01 ∷ 0x80 ∷ 0x01 ∷ 0xD8 ∷ []
unfolding cd_edc_of remainder_by plus_prefix rising_bits_of rising_bits rising_number
edc-80 = refl

-- the first sector after the pause of two seconds: minute 0, second 2, frame 0
header-150 : header 150 ≡ 0x00 ∷ 0x02 ∷ 0x00 ∷ []
header-150 = refl

-- the last sector of all: minute 99, second 59, frame 74
header-last : header 449999 ≡ 0x99 ∷ 0x59 ∷ 0x74 ∷ []
header-last = refl

-- the first and the last byte of the first and of the last P word
places-p : sector_place 0 0 ∷ sector_place 0 25 ∷ sector_place 85 0 ∷ sector_place 85 25 ∷ [] ≡ 12 ∷ 2162 ∷ 97 ∷ 2247 ∷ []
unfolding sector_place
places-p = refl

-- the first, the second and the last byte of the first Q word, and the last byte of the last one
places-q : sector_place 86 0 ∷ sector_place 86 1 ∷ sector_place 86 44 ∷ sector_place 137 44 ∷ [] ≡ 12 ∷ 100 ∷ 2300 ∷ 2351 ∷ []
unfolding sector_place
places-q = refl
