-- The command `cdread`: sector k is a CD-ROM sector of Mode 1 (ECMA-130, 14). If it has nothing wrong after its repair,
-- its user data are written. Otherwise a line is reported with the sector and the first cause, and then 2,048 zeros are
-- written.
use Rattle.std.specs.Prelude.{◌≡◌, ◌⊎◌, ℕ, ◌+◌, List, [], ◌∷◌, take, drop, replicate}
use Rattle.cd_sector.specs.Causes.{IsCause, IsRightSector}
use Rattle.cd_sector.specs.Repair.{repaired}
use Rattle.cd_sector.specs.declared.checking.CdCause.{CdCause}
use Rattle.dvd_loop.specs.Machine.{Step, Units, plain_units}
use Rattle.dvd_loop.specs.Machine.Step.{Write, Report}
use Rattle.dvd_loop.specs.declared.ends.UnitKind.{UnitKind}
use Rattle.dvd_loop.specs.declared.ends.UnitKind.TheVariants.{Good, Bad}
use Rattle.dvd_commands.specs.CdLines.{damaged_sector_line}
use Rattle.dvd_commands.specs.Meaning.{Meaning, by_settings}

-- the user data of a sector
abbrev pub user_data : List ℕ → List ℕ
user_data sector = take 2048 (drop 16 sector)

-- Nothing is wrong with the sector after its repair: its user data are written.
pub record IsSectorGiven (address : ℕ) (read : List ℕ) (steps : List Step) (kind : UnitKind) : Type 0 where
  pub faultless : IsRightSector (repaired read) address
  pub writes : steps ≡ Write (user_data (repaired read)) ∷ []
  pub good : kind ≡ Good

-- Or something is: a line reports the first cause, and then 2,048 zeros are written.
pub record IsSectorRefused (address k : ℕ) (read : List ℕ) (steps : List Step) (kind : UnitKind) : Type 0 where
  pub cause : CdCause
  pub is_cause : IsCause (repaired read) address cause
  pub reports : steps ≡ Report (damaged_sector_line k cause) ∷ Write (replicate 2048 0) ∷ []
  pub bad : kind ≡ Bad

-- what is done for sector k of the input, which has this address
abbrev pub IsSectorRead : ℕ → ℕ → List ℕ → List Step → UnitKind → Type 0
IsSectorRead address k read steps kind = IsSectorGiven address read steps kind ⊎ IsSectorRefused address k read steps kind

-- sector k has 2,352 bytes of the input, and the address first + k
abbrev pub cdread_units : ℕ → ℕ → Units
cdread_units first sectors = plain_units sectors (λ k. 2352) (λ k. IsSectorRead (first + k) k)

-- the meaning of `cdread`: it has no layout
abbrev pub cdread_meaning : Meaning
cdread_meaning = by_settings (λ settings. cdread_units settings.address settings.sectors)
