-- Sixteen frames have exactly one block.
use Rattle.std.specs.Prelude.{◌≡◌, ℕ, ◌<◌, List, length, All}
use Rattle.coding.specs.Words.{IsByte}
use Rattle.coding.specs.Product.{line, IsBlockOf}

-- at most one
abbrev pub OneBlockAtMost : Type 0
OneBlockAtMost = (frames a b : List (List ℕ)) → IsBlockOf frames a → IsBlockOf frames b → a ≡ b

-- and one, if the frames are 2,064 bytes each
abbrev pub SomeBlock : Type 0
SomeBlock =
    (frames : List (List ℕ)) → ((f : ℕ) → f < 16 → length (line frames f) ≡ 2064) → ((f : ℕ) → f < 16 → All IsByte (line frames f))
    → (block : List (List ℕ)) × IsBlockOf frames block
