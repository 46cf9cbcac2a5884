-- ECC blocks (ECMA-267, 18): 208 rows of 182 bytes, a product code. A block is the list of its rows.
use Rattle.std.specs.Prelude.{◌≡◌, ℕ, ◌+◌, ◌*◌, ◌<◌, List, length, All, slice_index}
use Rattle.coding.specs.Words.{IsCodeword}
pub use Rattle.coding.specs.Rows.{line, place, column}

-- Each row is a codeword with ten bytes of inner parity (PI), and each column one with sixteen of outer parity (PO).
-- The columns of PI bytes and the rows of PO bytes are codewords too. The code sets one parity after the other.
pub record IsProduct (block : List (List ℕ)) : Type 0 where
  pub height : length block ≡ 208
  pub rows : All (IsCodeword 182 10) block
  pub columns : (j : ℕ) → j < 182 → IsCodeword 208 16 (column block j)

-- the new block is a product codeword, and its frames are those of the old block
pub record IsParityAdded (old new : List (List ℕ)) : Type 0 where
  pub product : IsProduct new
  pub kept : (i j : ℕ) → i < 192 → j < 172 → place new i j ≡ place old i j

-- the twelve rows from 12f on begin with the frame, 172 bytes in each
unfoldable pub HoldsFrame : ℕ → List ℕ → List (List ℕ) → Type 0
HoldsFrame f frame block =
    (q p : ℕ) → q < 12 → p < 172 → place block (12 * f + q) p ≡ slice_index frame (172 * q + p)

-- the block of sixteen frames; there is exactly one
pub record IsBlockOf (frames block : List (List ℕ)) : Type 0 where
  pub product : IsProduct block
  pub holds : (f : ℕ) → f < 16 → HoldsFrame f (line frames f) block
