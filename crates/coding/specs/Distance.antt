-- How many bytes of a word aren't 0, and at how many places two words differ.
use Rattle.std.specs.Prelude.{ℕ, ◌+◌, List, [], ◌∷◌, ◌==◌, if◌then◌else◌}

-- the number of bytes that aren't 0
unfoldable pub weight : List ℕ → ℕ
weight [] = 0
weight (byte ∷ rest) = (if byte == 0 then 0 else 1) + weight rest

-- the number of places where two words of one length differ
unfoldable pub distance : List ℕ → List ℕ → ℕ
distance [] ys = 0
distance (x ∷ xs) [] = 0
distance (x ∷ xs) (y ∷ ys) = (if x == y then 0 else 1) + distance xs ys
