-- Words over the field as polynomials: where their value is 0.
-- A word's first byte is the coefficient of the highest power, as in ECMA-267, clause 18.
use Rattle.std.specs.Prelude.{◌≡◌, ℕ, ◌<◌, List, ◌∷◌}
use Rattle.coding.specs.Field.{alpha, power}
use Rattle.coding.specs.Words.{value}

-- a polynomial with the leading coefficient 1, which isn't written, has the roots alpha^0 to alpha^(r-1)
abbrev pub HasRoots : ℕ → List ℕ → Type 0
HasRoots r generator = (k : ℕ) → k < r → value (1 ∷ generator) (power alpha k) ≡ 0
