-- What the arguments of `draw` ask for.
use Rattle.std.specs.Prelude.{List, codes, Option, Some}
use Rattle.clap.specs.Words.{Row, first_of}
use Rattle.dvd_words.specs.Reading.{◌>>=◌, value_or}
use Rattle.dvd_words.specs.Words.{number_within}
use Rattle.cap_words.specs.declared.settings.DrawSettings.{DrawSettings}

-- a width from 100 to 4,000
abbrev pub draw_of : List Row → Option DrawSettings
draw_of rows = do
  width ← value_or 1000 (number_within 100 4000) (first_of (codes "width") rows)
  Some (record { width = width })
