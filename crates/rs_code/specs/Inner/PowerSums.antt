-- Bytes at points, and the sums of each byte times a power of its point. A word's value at alpha^k is such a sum,
-- where the point of a byte is the power of alpha by the number of bytes after it.
use Rattle.std.specs.Prelude.{◌≢◌, ℕ, zero, suc, List, [], ◌∷◌, All}
use Rattle.coding.specs.Field.{alpha, plus, product, power}

-- the sum of each byte times its point to the power k
unfoldable pub power_sum : List ℕ → List ℕ → ℕ → ℕ
power_sum [] points k = 0
power_sum (byte ∷ bytes) [] k = 0
power_sum (byte ∷ bytes) (point ∷ points) k = plus (product byte (power point k)) (power_sum bytes points k)

-- each byte times the sum of its point and a
unfoldable pub shifted_by : ℕ → List ℕ → List ℕ → List ℕ
shifted_by a [] points = []
shifted_by a (byte ∷ bytes) [] = []
shifted_by a (byte ∷ bytes) (point ∷ points) = product byte (plus point a) ∷ shifted_by a bytes points

-- the points of a word of n bytes: the power of alpha at each byte
unfoldable pub points_of : ℕ → List ℕ
points_of zero = []
points_of (suc n) = power alpha n ∷ points_of n

-- no point comes twice
unfoldable pub AreDistinct : List ℕ → Type 0
AreDistinct [] = Unit {0}
AreDistinct (x ∷ xs) = All (λ y. x ≢ y) xs × AreDistinct xs
