-- The command `frames`: sector k is 2,048 bytes of the input. Its scrambled data frame, 2,064 bytes, is written.
use Rattle.std.specs.Prelude.{◌≡◌, ◌≤◌, ℕ, ◌+◌, ◌^◌, false, List, replicate}
use Rattle.dvd_frame.specs.Id.{id_word}
use Rattle.dvd_frame.specs.Frame.{data_frame}
use Rattle.dvd_frame.specs.declared.id.Area.TheVariants.{DataZone}
use Rattle.dvd_frame.specs.declared.scrambling.Rule.TheVariants.{Whole}
use Rattle.dvd_loop.specs.Machine.{Units}
use Rattle.dvd_commands.specs.Making.{sectors_made}
use Rattle.dvd_commands.specs.Meaning.{Meaning, by_settings}
use Rattle.dvd_words.specs.declared.settings.Settings.{Settings}

-- the frame of a sector in the Data Zone of a disk with one layer, with six bytes 00 for CPR_MAI
abbrev pub IsSectorFrame : ℕ → List ℕ → List ℕ → Type 0
IsSectorFrame number sector frame = frame ≡ data_frame (id_word DataZone 0 false number) (replicate 6 0) Whole sector

-- the data frame of sector k has the number first + k
abbrev pub frames_units : ℕ → ℕ → Units
frames_units = sectors_made IsSectorFrame

-- the meaning of `frames`: it has no layout
abbrev pub frames_meaning : Meaning
frames_meaning = by_settings (λ settings. frames_units settings.first settings.sectors)

-- what the arguments of `frames` ensure: there is a sector, and the numbers have 24 bits
abbrev pub HasSectors : Settings → Type 0
HasSectors settings = (1 ≤ settings.sectors) × (settings.first + settings.sectors ≤ 2 ^ 24)
