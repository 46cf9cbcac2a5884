-- The bound of `cdread` (ours): what a run gives back of CD-ROM sectors whose damage their codewords can correct.
use Rattle.std.specs.Prelude.{◌≡◌, ℕ, ◌+◌, ◌*◌, ◌<◌, ◌≤◌, List, [], ◌∷◌, length, take, drop}
use Rattle.cd_sector.specs.Laws.{IsCorrectableHalf}
use Rattle.cd_sector.specs.Sector.{IsSector}
use Rattle.dvd_loop.specs.Laws.{IsPrefixOf}
use Rattle.dvd_loop.specs.Machine.{Outcome, Step}
use Rattle.dvd_loop.specs.Machine.Step.{Write}
use Rattle.dvd_loop.specs.declared.ends.UnitKind.{UnitKind}
use Rattle.dvd_loop.specs.declared.ends.UnitKind.TheVariants.{Good}
use Rattle.dvd_commands.specs.Bound.{GivesWhatCame}
use Rattle.dvd_commands.specs.CdRead.{IsSectorRead}
use Rattle.dvd_words.specs.declared.settings.Settings.{Settings}

-- the bytes of sector k of the input
abbrev pub cd_sector_bytes : List ℕ → ℕ → List ℕ
cd_sector_bytes bytes k = take 2352 (drop (2352 * k) bytes)

-- Sector k is whole in the input, and it was made of these user data for its address. In each half, that of the low and
-- that of the high bytes, its damage is within what the codewords can correct.
pub record IsCorrectableSector (settings : Settings) (bytes user : List ℕ) (k : ℕ) : Type 0 where
  pub asked : k < settings.sectors
  pub whole : 2352 * (k + 1) ≤ length bytes
  pub user_size : length user ≡ 2048
  pub sector : List ℕ
  pub is_sector : IsSector (settings.address + k) user sector
  pub low : IsCorrectableHalf 0 sector (cd_sector_bytes bytes k)
  pub high : IsCorrectableHalf 1 sector (cd_sector_bytes bytes k)

-- For all user data: each of these sectors whose damage is within the bound has given exactly them, at its place in the
-- output.
abbrev pub GivesUserData : Settings → List ℕ → List ℕ → Type 0
GivesUserData settings bytes out = (user : List ℕ) (k : ℕ) → IsCorrectableSector settings bytes user k → take 2048 (drop (2048 * k) out) ≡ user

-- The bound of `cdread`, for each sector within it: those that came are given back, and whatever ended the run, what
-- was written of one is a prefix of its user data. Nothing else may be done for such a sector, so that no line names
-- it.
pub record KeepsSectors (settings : Settings) (bytes : List ℕ) (outcome : Outcome) : Type 0 where
  pub given : GivesWhatCame (GivesUserData settings) bytes outcome
  pub begun : (user : List ℕ) (k : ℕ) → IsCorrectableSector settings bytes user k → IsPrefixOf (take 2048 (drop (2048 * k) outcome.out)) user
  pub alone : (user : List ℕ) (k : ℕ) → IsCorrectableSector settings bytes user k
      → (steps : List Step) (kind : UnitKind) → IsSectorRead (settings.address + k) k (cd_sector_bytes bytes k) steps kind
      → (steps ≡ Write user ∷ []) × (kind ≡ Good)
