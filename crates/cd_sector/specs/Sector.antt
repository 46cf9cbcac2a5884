-- Sectors of Mode 1 (ECMA-130, 14): 2,352 bytes.
use Rattle.std.specs.Prelude.{◌≡◌, ℕ, ◌+◌, ◌*◌, ◌/◌, ◌%◌, ◌<◌, List, [], ◌∷◌, ◌++◌, length, take, replicate}
use Rattle.cd_sector.specs.Edc.{cd_edc_of}
use Rattle.cd_sector.specs.Words.{IsRight}

-- the twelve bytes that every sector begins with
abbrev pub sync : List ℕ
sync = 0x00 ∷ 0xFF ∷ 0xFF ∷ 0xFF ∷ 0xFF ∷ 0xFF ∷ 0xFF ∷ 0xFF ∷ 0xFF ∷ 0xFF ∷ 0xFF ∷ 0x00 ∷ []

-- two decimal digits, four bits each
abbrev pub digits : ℕ → ℕ
digits number = 16 * (number / 10) + number % 10

-- minute, second and frame of an address: a second has 75 frames
abbrev pub header : ℕ → List ℕ
header address = digits (address / 4500) ∷ digits (address / 75 % 60) ∷ digits (address % 75) ∷ []

-- bytes 0 to 2063, which the EDC covers; the mode is 1
unfoldable pub covered : ℕ → List ℕ → List ℕ
covered address user = sync ++ header address ++ 0x01 ∷ user

-- bytes 0 to 2075: the EDC and eight zeros follow
unfoldable pub data_part : ℕ → List ℕ → List ℕ
data_part address user = covered address user ++ cd_edc_of (covered address user) ++ replicate 8 0

-- The sector of an address below 450,000 and of 2,048 bytes user data. The code sets the P words 32 at once, then the Q
-- words.
pub record IsSector (address : ℕ) (user sector : List ℕ) : Type 0 where
  pub size : length sector ≡ 2352
  pub begins : take 2076 sector ≡ data_part address user
  pub words : (word : ℕ) → word < 138 → IsRight sector word
