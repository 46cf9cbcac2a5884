-- What a decoder counts, and when it refuses.
use Rattle.std.specs.Prelude.{ℕ, ◌+◌, Bool, List, ◌∷◌, ◌==◌, if◌then◌else◌}
use Rattle.coding.specs.Words.{IsNear}

-- the number of unmarked places where a word and its codeword differ
unfoldable pub error_count : List ℕ → List ℕ → List Bool → ℕ
error_count (got ∷ received) (byte ∷ word) (mark ∷ marks) =
    (if mark then 0 else if byte == got then 0 else 1) + error_count received word marks
error_count received word marks = 0

-- no codeword is near
abbrev pub HasNoneNear : ℕ → ℕ → List ℕ → List Bool → Type 0
HasNoneNear n r received marks = (word : List ℕ) → IsNear n r received marks word → ⊥
