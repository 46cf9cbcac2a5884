-- Why a sector isn't right at an address (ours), the first that applies.
use Rattle.std.specs.Prelude.{◌≡◌, ◌≢◌, ℕ, ◌+◌, ◌*◌, ◌<◌, List, ◌++◌, take, drop, slice_index}
use Rattle.cd_sector.specs.Edc.{cd_edc_of}
use Rattle.cd_sector.specs.Sector.{sync, header}
use Rattle.cd_sector.specs.Words.{IsRight}
use Rattle.cd_sector.specs.declared.checking.CdCause.{CdCause}
use Rattle.cd_sector.specs.declared.checking.CdCause.TheVariants.{Parity, Mode, Address, Edc}

-- all words with a lower number are codewords
abbrev pub AreRightBelow : ℕ → List ℕ → Type 0
AreRightBelow end sector = (word : ℕ) → word < end → IsRight sector word

-- minute, second and frame as they were read
abbrev pub found_header : List ℕ → List ℕ
found_header sector = take 3 (drop 12 sector)

-- these three as one number, the minute highest
abbrev pub found_number : List ℕ → ℕ
found_number sector = 65536 * slice_index sector 12 + 256 * slice_index sector 13 + slice_index sector 14

-- the EDC is right, with the sync in place of the first twelve bytes
abbrev pub HasRightEdc : List ℕ → Type 0
HasRightEdc sector = take 4 (drop 2064 sector) ≡ cd_edc_of (sync ++ take 2052 (drop 12 sector))

-- nothing is wrong; the sync isn't checked
pub record IsRightSector (sector : List ℕ) (address : ℕ) : Type 0 where
  pub words : AreRightBelow 138 sector
  pub mode : slice_index sector 15 ≡ 1
  pub header_is : found_header sector ≡ header address
  pub edc : HasRightEdc sector

-- the least word that isn't a codeword, another mode, another address, or a wrong EDC
abbrev pub IsCause : List ℕ → ℕ → CdCause → Type 0
IsCause sector address (Parity word) = (word < 138) × (IsRight sector word → ⊥) × AreRightBelow word sector
IsCause sector address (Mode byte) = AreRightBelow 138 sector × (slice_index sector 15 ≡ byte) × (byte ≢ 1)
IsCause sector address (Address found) =
    AreRightBelow 138 sector × (slice_index sector 15 ≡ 1) × (found_number sector ≡ found) × (found_header sector ≢ header address)
IsCause sector address Edc =
    AreRightBelow 138 sector × (slice_index sector 15 ≡ 1) × (found_header sector ≡ header address) × (HasRightEdc sector → ⊥)
