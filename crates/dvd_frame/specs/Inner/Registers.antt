-- What the registers of the code hold, of which the standard's definitions don't speak.
use Rattle.std.specs.Prelude.{ℕ, ◌+◌, ◌*◌, List, ◌++◌, length, map, replicate}
use Rattle.std.specs.List.{range_with_len}
use Rattle.coding.specs.BitDivision.{plus_prefix}
use Rattle.coding.specs.Bits.{bits, bits_of, number_of}
use Rattle.dvd_frame.specs.Edc.{remainder}
use Rattle.dvd_frame.specs.Scrambling.{scrambling_byte}

-- n scrambling bytes of a preset, from byte k on
unfoldable pub keys_from : ℕ → ℕ → ℕ → List ℕ
keys_from preset k n = map (scrambling_byte preset) (range_with_len k n)

-- What division leaves once these bytes are read too: the register's bits are what is left of all before them.
unfoldable pub divided_from : ℕ → List ℕ → List ℕ
divided_from register bytes =
    remainder (8 * length bytes) (plus_prefix (bits_of bytes ++ replicate 32 0) (bits 32 register))

-- what division leaves of a byte followed by k bytes of zeros and 32 zeros, as a word
unfoldable pub byte_remainder : ℕ → ℕ → ℕ
byte_remainder k byte = number_of (remainder (8 * (k + 1)) (bits 8 byte ++ replicate (8 * k + 32) 0))
