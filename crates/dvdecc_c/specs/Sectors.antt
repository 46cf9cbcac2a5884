-- What is answered of a CD-ROM sector.
use Rattle.std.specs.Prelude.{ℕ, List, ◌==◌, nat_lt, if◌then◌else◌}
use Rattle.std.specs.declared.option.Option.{Option}
use Rattle.std.specs.declared.option.Option.TheVariants.{Some, None}
use Rattle.cd_sector.specs.Causes.{IsCause, IsRightSector}
use Rattle.cd_sector.specs.declared.checking.CdCause.{CdCause}
use Rattle.cd_sector.specs.declared.checking.CdCause.TheVariants.{Parity, Mode, Address, Edc}
use Rattle.dvdecc_c.specs.declared.status.TheConstants.{OK, BAD_ADDRESS, CD_PARITY, CD_MODE, CD_ADDRESS, CD_EDC}

-- the status by the address alone
abbrev pub address_status : ℕ → ℕ
address_status address = if nat_lt address 450000 then OK else BAD_ADDRESS

-- The cause that a status and its number name, or that there is none. Other statuses answer nothing of a sector.
abbrev pub answered : ℕ → ℕ → Option (Option CdCause)
answered status number =
    if status == OK then Some None
    else if status == CD_PARITY then Some (Some (Parity number))
    else if status == CD_MODE then Some (Some (Mode number))
    else if status == CD_ADDRESS then Some (Some (Address number))
    else if status == CD_EDC then Some (Some Edc)
    else None

-- What was answered holds of the sector: exactly one answer does.
abbrev pub IsAnswered : List ℕ → ℕ → Option (Option CdCause) → Type 0
IsAnswered sector address None = ⊥
IsAnswered sector address (Some None) = IsRightSector sector address
IsAnswered sector address (Some (Some cause)) = IsCause sector address cause

-- the number that is reported: causes but that of the EDC have one
abbrev pub with_number : ℕ → ℕ → ℕ → ℕ
with_number status said before =
    if status == CD_PARITY then said else if status == CD_MODE then said else if status == CD_ADDRESS then said else before
