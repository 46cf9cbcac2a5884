-- The locator: a polynomial that vanishes at the points of the errors, the highest power first. Its coefficients are
-- the taps of a register that generates the power sums.
use Rattle.std.specs.Prelude.{ℕ, Bool, ◌||◌, ◌==◌, List, [], ◌∷◌}
use Rattle.coding.specs.Field.{plus, product}
use Rattle.coding.specs.Words.{value}

-- each byte times the function's value at its point
unfoldable pub at_points : (ℕ → ℕ) → List ℕ → List ℕ → List ℕ
at_points f [] points = []
at_points f (byte ∷ bytes) [] = []
at_points f (byte ∷ bytes) (point ∷ points) = product byte (f point) ∷ at_points f bytes points

-- the product of a point's distances to others; as a factor of each byte it takes those at the others to 0
unfoldable pub distances : List ℕ → ℕ → ℕ
distances [] x = 1
distances (a ∷ others) x = product (plus x a) (distances others x)

-- The slope of the locator of the others between x and y: what its values there differ by is this times the distance of
-- x and y. Where both are one point, it is the derivative.
unfoldable pub slope : List ℕ → ℕ → ℕ → ℕ
slope [] x y = 0
slope (a ∷ others) x y = plus (product (plus x a) (slope others x y)) (distances others y)

-- the marks, with each place whose point is a zero of the locator marked too
unfoldable pub with_zeros : List ℕ → List Bool → List ℕ → List Bool
with_zeros locator [] points = []
with_zeros locator (mark ∷ marks) [] = []
with_zeros locator (mark ∷ marks) (point ∷ points) = (mark || (value locator point == 0)) ∷ with_zeros locator marks points
