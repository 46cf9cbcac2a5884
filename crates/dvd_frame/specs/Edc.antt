-- The error detection code, the EDC (ECMA-267, 16.4): the remainder of a list of bits, as a polynomial times x^32,
-- by x^32 + x^31 + x^4 + 1. The code keeps one word of 32 bits instead of the list.
use Rattle.std.specs.Prelude.{ℕ, ◌*◌, List, ◌++◌, length, replicate}
use Rattle.coding.specs.BitDivision.{remainder_by}
use Rattle.coding.specs.Bits.{bits, bits_of, number_of}
use Rattle.dvd_frame.specs.Id.{word_bytes}

-- the divisor without its leading term
abbrev pub divisor : ℕ
divisor = 0x80000011

-- what n steps of the division by it leave of a list of bits
abbrev pub remainder : ℕ → List ℕ → List ℕ
remainder = remainder_by (bits 32 divisor)

-- The EDC of a list of bytes: of their bits and 32 zeros the last 32 are left.
unfoldable pub edc_of : List ℕ → List ℕ
edc_of bytes = word_bytes (number_of (remainder (8 * length bytes) (bits_of bytes ++ replicate 32 0)))
