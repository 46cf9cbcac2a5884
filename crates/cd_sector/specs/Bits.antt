-- Numbers and bytes as lists of bits, the least significant first. A bit is 0 or 1.
use Rattle.std.specs.Prelude.{ℕ, zero, suc, ◌+◌, ◌*◌, ◌/◌, ◌%◌, List, [], ◌∷◌, ◌++◌}

-- the lowest n bits of a number
unfoldable pub rising_bits : ℕ → ℕ → List ℕ
rising_bits zero number = []
rising_bits (suc n) number = number % 2 ∷ rising_bits n (number / 2)

-- the bits of all the bytes
unfoldable pub rising_bits_of : List ℕ → List ℕ
rising_bits_of [] = []
rising_bits_of (byte ∷ bytes) = rising_bits 8 byte ++ rising_bits_of bytes

-- the number that the bits represent
unfoldable pub rising_number : List ℕ → ℕ
rising_number [] = 0
rising_number (bit ∷ rest) = bit + 2 * rising_number rest
