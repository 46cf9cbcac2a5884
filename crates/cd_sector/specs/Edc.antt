-- The error detection code, the EDC (ECMA-130, 14.3): the remainder of a list of bits, as a polynomial times x^32,
-- by (x^16 + x^15 + x^2 + 1) (x^16 + x^2 + x + 1) = x^32 + x^31 + x^16 + x^15 + x^4 + x^3 + x + 1.
-- The least significant bit of each byte comes first. The code keeps one word of 32 bits instead of the list.
use Rattle.std.specs.Prelude.{ℕ, ◌*◌, List, ◌++◌, length, replicate, reverse}
use Rattle.std.specs.Int.{to_le_bytes, w32}
use Rattle.coding.specs.BitDivision.{remainder_by}
use Rattle.cd_sector.specs.Bits.{rising_bits, rising_bits_of, rising_number}

-- the coefficients of the divisor without its leading term, that of x^31 first
abbrev pub cd_divisor : List ℕ
cd_divisor = reverse (rising_bits 32 0x8001801B)

-- The EDC of a list of bytes: their bits and 32 zeros are divided, and the 32 bits that are left are put into four
-- bytes.
unfoldable pub cd_edc_of : List ℕ → List ℕ
cd_edc_of bytes = to_le_bytes w32 (rising_number (remainder_by cd_divisor (8 * length bytes) (rising_bits_of bytes ++ replicate 32 0)))
