-- What the arguments of `lost` ask for.
use Rattle.std.specs.Prelude.{List, Option}
use Rattle.clap.specs.Words.{Row}
use Rattle.dvd_words.specs.Reading.{settings_of}
use Rattle.dvd_words.specs.declared.settings.Settings.{Settings}
use Rattle.dvd_words.specs.declared.table.Command.TheVariants.{Recover}

-- The settings that `recover` has by the same options. It has the others of these too, which aren't given here.
abbrev pub lost_of : List Row → Option Settings
lost_of = settings_of Recover
