-- The bytes of a word at its marked places.
use Rattle.std.specs.Prelude.{ℕ, Bool, true, false, List, [], ◌∷◌}

-- the numbers at the marked places, in order
unfoldable pub picked : List Bool → List ℕ → List ℕ
picked [] xs = []
picked (mark ∷ marks) [] = []
picked (true ∷ marks) (x ∷ xs) = x ∷ picked marks xs
picked (false ∷ marks) (x ∷ xs) = picked marks xs
