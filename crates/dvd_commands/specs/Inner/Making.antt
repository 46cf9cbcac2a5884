-- What the loop of `frames` and `cdmake` needs to know: what is made of a sector, and which numbers there are.
use Rattle.std.specs.Prelude.{ℕ, ◌^◌, List}
use Rattle.cd_sector.specs.Sector.{IsSector}
use Rattle.dvd_commands.specs.Frames.{IsSectorFrame}
use Rattle.dvd_commands.specs.declared.making.Made.{Made}
use Rattle.dvd_commands.specs.declared.making.Made.TheVariants.{CdSector, DataFrame}

-- what is made of a sector with this number
abbrev pub IsMadeAs : Made → ℕ → List ℕ → List ℕ → Type 0
IsMadeAs DataFrame = IsSectorFrame
IsMadeAs CdSector = IsSector

-- the numbers are below this
abbrev pub number_limit : Made → ℕ
number_limit DataFrame = 2 ^ 24
number_limit CdSector = 450000
