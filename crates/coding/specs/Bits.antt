-- Numbers and bytes as lists of bits, the most significant first. A bit is 0 or 1.
use Rattle.std.specs.Prelude.{ℕ, zero, suc, ◌+◌, ◌*◌, List, [], ◌∷◌, ◌++◌, fold}
use Rattle.std.specs.Int.{bit_at}

-- the lowest n bits of a number
unfoldable pub bits : ℕ → ℕ → List ℕ
bits zero number = []
bits (suc n) number = bit_at number n ∷ bits n number

-- the bits of all the bytes
unfoldable pub bits_of : List ℕ → List ℕ
bits_of [] = []
bits_of (byte ∷ bytes) = bits 8 byte ++ bits_of bytes

-- the number that the bits represent
abbrev pub number_of : List ℕ → ℕ
number_of bs = fold (λ number bit. 2 * number + bit) 0 bs
