-- Words whose bytes at marked places are lost: erasures of the codes of ECMA-267, clauses 16.2 and 18.
use Rattle.std.specs.Prelude.{◌≡◌, ℕ, ◌+◌, ◌<◌, ◌≤◌, Bool, false, List, [], ◌∷◌, if◌then◌else◌, length, slice_index, slice_index_or}
use Rattle.coding.specs.Words.{IsCodeword}

-- how many places are marked
unfoldable pub marked : List Bool → ℕ
marked [] = 0
marked (mark ∷ marks) = (if mark then 1 else 0) + marked marks

-- two words have the same bytes at all places that aren't marked
abbrev pub AgreeUnmarked : List Bool → List ℕ → List ℕ → Type 0
AgreeUnmarked marks received word =
    (k : ℕ) → k < length marks → slice_index_or marks k false ≡ false → slice_index word k ≡ slice_index received k

-- A codeword that agrees with a received word at all places that aren't marked; at most r places are marked. The code
-- finds the bytes at the marked places from the syndromes; this definition needs none.
pub record IsFilling (n r : ℕ) (received : List ℕ) (marks : List Bool) (word : List ℕ) : Type 0 where
  pub codeword : IsCodeword n r word
  pub agrees : AgreeUnmarked marks received word
  pub within : marked marks ≤ r

-- no codeword fills the received word in this way
abbrev pub HasNoFilling : ℕ → ℕ → List ℕ → List Bool → Type 0
HasNoFilling n r received marks = (word : List ℕ) → IsFilling n r received marks word → ⊥
