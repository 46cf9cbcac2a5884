-- The laws of captured blocks and of two-pass decoding.
use Rattle.std.specs.Prelude.{◌≡◌, ℕ, ◌<◌, ◌^◌, Bool, List, All, length}
use Rattle.coding.specs.Product.{IsProduct}
use Rattle.coding.specs.Recording.{recording}
use Rattle.dvd_capture.specs.Captured.{IsUnitOf, captured_rows}
use Rattle.dvd_capture.specs.Header.{header_bytes}
use Rattle.coding.specs.TwoPass.{IsTwoPass}
use Rattle.coding.specs.Within.{IsWithin}
use Rattle.dvd_capture.specs.declared.form.Form.TheVariants.{Plain}
use Rattle.dvd_capture.specs.declared.header.Header.{Header}

-- at most one block has two-pass agreement
abbrev pub TwoPassIsOnlyOne : Type 0
TwoPassIsOnlyOne =
    (received : List (List ℕ)) (marks : List (List Bool)) (a b : List (List ℕ)) → length received ≡ 208 → length marks ≡ 208
    → IsTwoPass received marks a → IsTwoPass received marks b → a ≡ b

-- the block that was recorded has it, if the damage is within the bound
abbrev pub WithinIsTwoPass : Type 0
WithinIsTwoPass =
    (block received : List (List ℕ)) (marks : List (List Bool)) → IsProduct block
    → All (λ row. length row ≡ 182) received → All (λ row. length row ≡ 182) marks
    → IsWithin block received marks → IsTwoPass received marks block

-- the recording of a block, captured in the plain form, is that block
abbrev pub RecordingIsCaptured : Type 0
RecordingIsCaptured =
    (block : List (List ℕ)) → length block ≡ 208 → All (λ row. length row ≡ 182) block → captured_rows Plain (recording block) ≡ block

-- rows and marks have at most one listed unit
abbrev pub MarksHaveOneSpelling : Type 0
MarksHaveOneSpelling =
    (rows : List (List ℕ)) (marks : List (List Bool)) (a b : List ℕ) → IsUnitOf rows marks a → IsUnitOf rows marks b → a ≡ b

-- and they have one
abbrev pub MarksHaveASpelling : Type 0
MarksHaveASpelling =
    (rows : List (List ℕ)) (marks : List (List Bool)) → length rows ≡ 208 → All (λ row. length row ≡ 182) rows
    → length marks ≡ 208 → All (λ row. length row ≡ 182) marks → (unit : List ℕ) × IsUnitOf rows marks unit

-- the numbers of a header have 32 bits
abbrev pub FitsHeader : Header → Type 0
FitsHeader header = (header.sectors0 < 2 ^ 32) × (header.sectors1 < 2 ^ 32) × (header.initial < 2 ^ 32) × (header.tail < 2 ^ 32)

-- headers with the same bytes state the same
pub record StateTheSame (a b : Header) : Type 0 where
  pub shape : a.shape ≡ b.shape
  pub zones : a.zones ≡ b.zones
  pub sectors0 : a.sectors0 ≡ b.sectors0
  pub sectors1 : a.sectors1 ≡ b.sectors1
  pub initial : a.initial ≡ b.initial
  pub tail : a.tail ≡ b.tail

-- two headers whose numbers have 32 bits are the same where their bytes are
abbrev pub HeadersDiffer : Type 0
HeadersDiffer = (a b : Header) → FitsHeader a → FitsHeader b → header_bytes a ≡ header_bytes b → StateTheSame a b
