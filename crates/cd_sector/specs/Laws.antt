-- What holds of every sector, and what repair gives back.
use Rattle.std.specs.Prelude.{◌≡◌, ◌≢◌, ◌⊎◌, ℕ, ◌%◌, ◌<◌, ◌≤◌, List, length, slice_index, All}
use Rattle.coding.specs.Words.{IsByte}
use Rattle.coding.specs.Distance.{distance}
use Rattle.cd_sector.specs.Causes.{IsRightSector, IsCause}
use Rattle.cd_sector.specs.declared.checking.CdCause.{CdCause}
use Rattle.cd_sector.specs.Repair.{repaired}
use Rattle.cd_sector.specs.Sector.{IsSector}
use Rattle.cd_sector.specs.Words.{sector_place, sector_word}

-- a word of one half of a sector: half 0 is the low bytes, half 1 the high ones
abbrev pub IsOfHalf : ℕ → ℕ → Type 0
IsOfHalf half word = word % 2 ≡ half

-- at most one byte of a word is wrong
abbrev pub HasAtMostOneWrong : List ℕ → List ℕ → ℕ → Type 0
HasAtMostOneWrong sector read word = distance (sector_word sector word) (sector_word read word) ≤ 1

-- a byte of a word is right
abbrev pub HasRightByte : List ℕ → List ℕ → ℕ → ℕ → Type 0
HasRightByte sector read word m = slice_index read (sector_place word m) ≡ slice_index sector (sector_place word m)

-- In one half each P word has at most one wrong byte, and each Q word at most one among its last two.
pub record IsScattered (half : ℕ) (sector read : List ℕ) : Type 0 where
  pub p_words : (word : ℕ) → word < 86 → IsOfHalf half word → HasAtMostOneWrong sector read word
  pub q_words : (word : ℕ) → 86 ≤ word → word < 138 → IsOfHalf half word → HasRightByte sector read word 43 ⊎ HasRightByte sector read word 44

-- In one half one P word may be all wrong, each other has at most one wrong byte, and the last two bytes of each Q word
-- are right.
pub record IsBurst (half bad : ℕ) (sector read : List ℕ) : Type 0 where
  pub p_words : (word : ℕ) → word < 86 → IsOfHalf half word → word ≢ bad → HasAtMostOneWrong sector read word
  pub first_own : (word : ℕ) → 86 ≤ word → word < 138 → IsOfHalf half word → HasRightByte sector read word 43
  pub second_own : (word : ℕ) → 86 ≤ word → word < 138 → IsOfHalf half word → HasRightByte sector read word 44

-- a half is damaged in one of these two ways, if at all
abbrev pub IsCorrectableHalf : ℕ → List ℕ → List ℕ → Type 0
IsCorrectableHalf half sector read = IsScattered half sector read ⊎ ((bad : ℕ) × IsBurst half bad sector read)

-- A sector whose halves are both damaged in one of these ways is repaired to what it was. Its sync doesn't count.
abbrev pub CorrectableDamageIsRepaired : Type 0
CorrectableDamageIsRepaired =
    (address : ℕ) (user sector read : List ℕ) → IsSector address user sector → length read ≡ 2352
    → IsCorrectableHalf 0 sector read → IsCorrectableHalf 1 sector read → repaired read ≡ sector

-- a sector that was made has nothing wrong
abbrev pub SectorsAreFaultless : Type 0
SectorsAreFaultless =
    (address : ℕ) (user sector : List ℕ) → length user ≡ 2048 → IsSector address user sector → IsRightSector sector address

-- an address and user data have one sector at most
abbrev pub SectorIsOnlyOne : Type 0
SectorIsOnlyOne = (address : ℕ) (user a b : List ℕ) → IsSector address user a → IsSector address user b → a ≡ b

-- what has nothing wrong has no cause
abbrev pub FaultlessHasNoCause : Type 0
FaultlessHasNoCause = (sector : List ℕ) (address : ℕ) (cause : CdCause) → IsRightSector sector address → IsCause sector address cause → ⊥

-- an address below 450,000 and 2,048 bytes of user data have a sector
abbrev pub SomeSector : Type 0
SomeSector =
    (address : ℕ) (user : List ℕ) → address < 450000 → length user ≡ 2048 → All IsByte user → (sector : List ℕ) × IsSector address user sector
