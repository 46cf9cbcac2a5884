-- Division of polynomials over two bits, by which the EDC of a data frame (ECMA-267, 16.4) and that of a CD-ROM sector
-- (ECMA-130, 14.3) are defined. A polynomial is a list of bits, that of its highest power first. A bit is 0 or 1.
-- It is below the crates of both, so that one definition of division serves them.
use Rattle.std.specs.Prelude.{ℕ, zero, suc, ◌==◌, bit_xor, if◌then◌else◌, List, [], ◌∷◌}

-- adds the second list of bits to the first bits of the first list
unfoldable pub plus_prefix : List ℕ → List ℕ → List ℕ
plus_prefix xs [] = xs
plus_prefix [] (y ∷ ys) = []
plus_prefix (x ∷ xs) (y ∷ ys) = bit_xor x y ∷ plus_prefix xs ys

-- Division in n steps by a divisor, which is given without its leading term: each step drops the leading bit and, where
-- it was 1, subtracts the divisor from the bits after it.
unfoldable pub remainder_by : List ℕ → ℕ → List ℕ → List ℕ
remainder_by divisor zero rest = rest
remainder_by divisor (suc n) [] = []
remainder_by divisor (suc n) (bit ∷ rest) = remainder_by divisor n (if bit == 1 then plus_prefix rest divisor else rest)
