-- The marked places of a word, words with bytes added at these, and bytes for 32 words with the same marks.
use Rattle.std.specs.Prelude.{◌≡◌, ℕ, zero, suc, ◌<◌, Bool, true, false, List, [], ◌∷◌, slice_index, take}
use Rattle.coding.specs.Field.{alpha, plus, power}
use Rattle.coding.specs.Filling.{marked}
use Rattle.coding.specs.Rows.{column}
use Rattle.coding.specs.Words.{value}
use Rattle.rs_decode.specs.declared.patches.Patches.{Patches}

-- the place of the mark that i marks come before
unfoldable pub place_of_mark : List Bool → ℕ → ℕ
place_of_mark [] i = 0
place_of_mark (true ∷ marks) zero = 0
place_of_mark (true ∷ marks) (suc i) = suc (place_of_mark marks i)
place_of_mark (false ∷ marks) i = suc (place_of_mark marks i)

-- the first `count` numbers are the places of the first marks
abbrev pub ArePlaces : List Bool → ℕ → List ℕ → Type 0
ArePlaces marks count places = (i : ℕ) → i < count → slice_index places i ≡ place_of_mark marks i

-- a word with the bytes added to its marked places, in order
unfoldable pub patched : List ℕ → List Bool → List ℕ → List ℕ
patched [] marks bytes = []
patched (byte ∷ word) [] bytes = byte ∷ word
patched (byte ∷ word) (false ∷ marks) bytes = byte ∷ patched word marks bytes
patched (byte ∷ word) (true ∷ marks) [] = byte ∷ patched word marks []
patched (byte ∷ word) (true ∷ marks) (first ∷ rest) = plus byte first ∷ patched word marks rest

-- where the bytes for word n are said to be right, the word with them added vanishes at alpha^0 to alpha^15
abbrev pub Completes : Patches → List Bool → ℕ → List ℕ → Type 0
Completes patches marks n word =
    slice_index patches.wrong n ≡ 0 → (k : ℕ) → k < 16
    → value (patched word marks (take (marked marks) (column patches.bytes n))) (power alpha k) ≡ 0

-- the bytes for all 32 words are said to be right
abbrev pub AreRight : Patches → Type 0
AreRight patches = (n : ℕ) → n < 32 → slice_index patches.wrong n ≡ 0
