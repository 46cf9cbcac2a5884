-- The laws of decoding, for words of at most 255 bytes, and of registers.
use Rattle.std.specs.Prelude.{◌≡◌, ℕ, ◌*◌, ◌≤◌, List, Bool, length, Some, ◌↔◌}
use Rattle.coding.specs.Words.{IsNear}
use Rattle.coding.specs.Nearest.{near_of}
use Rattle.coding.specs.Filling.{IsFilling}
use Rattle.rs_decode.specs.Register.{Generates, IsLeast}

-- at most one codeword is near
abbrev pub NearCodewordIsOnlyOne : Type 0
NearCodewordIsOnlyOne =
    (n r : ℕ) (received : List ℕ) (marks : List Bool) (a b : List ℕ) → n ≤ 255 → IsNear n r received marks a → IsNear n r received marks b → a ≡ b

-- at most one codeword agrees at all unmarked places
abbrev pub FillingIsOnlyOne : Type 0
FillingIsOnlyOne =
    (n r : ℕ) (received : List ℕ) (marks : List Bool) (a b : List ℕ) → n ≤ 255 → length marks ≡ n → IsFilling n r received marks a → IsFilling n r received marks b → a ≡ b

-- a codeword that agrees at all unmarked places is near, since it costs one for each marked place
abbrev pub FillingIsNear : Type 0
FillingIsNear =
    (n r : ℕ) (received : List ℕ) (marks : List Bool) (word : List ℕ) → length received ≡ n → length marks ≡ n → IsFilling n r received marks word → IsNear n r received marks word

-- the search through all words finds the near codeword, exactly where there is one
abbrev pub NearCodewordIsFound : Type 0
NearCodewordIsFound =
    (n r : ℕ) (received : List ℕ) (marks : List Bool) (word : List ℕ) → n ≤ 255 → length received ≡ n → length marks ≡ n
    → (near_of n r received marks ≡ Some word) ↔ IsNear n r received marks word

-- of the shortest registers that generate a list, where they are at most half as long as it, there is only one
abbrev pub ShortestRegisterIsOnlyOne : Type 0
ShortestRegisterIsOnlyOne =
    (len : ℕ) (a b seq : List ℕ) → 2 * len ≤ length seq → IsLeast len seq → Generates len a seq → Generates len b seq → a ≡ b
