-- The command `cdmake`: sector k is 2,048 bytes of user data. Its CD-ROM sector of Mode 1 (ECMA-130, 14) is written.
use Rattle.std.specs.Prelude.{◌≤◌, ℕ, ◌+◌}
use Rattle.cd_sector.specs.Sector.{IsSector}
use Rattle.dvd_loop.specs.Machine.{Units}
use Rattle.dvd_commands.specs.Making.{sectors_made}
use Rattle.dvd_commands.specs.Meaning.{Meaning, by_settings}
use Rattle.dvd_words.specs.declared.settings.Settings.{Settings}

-- sector k is made for the address first + k
abbrev pub cdmake_units : ℕ → ℕ → Units
cdmake_units = sectors_made IsSector

-- what the arguments of `cdmake` and `cdread` ensure: each of their sectors has an address
abbrev pub HasAddresses : Settings → Type 0
HasAddresses settings = settings.address + settings.sectors ≤ 450000

-- the meaning of `cdmake`: it has no layout
abbrev pub cdmake_meaning : Meaning
cdmake_meaning = by_settings (λ settings. cdmake_units settings.address settings.sectors)
