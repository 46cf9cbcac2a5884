-- What the arguments of `mark` ask for.
use Rattle.std.specs.Prelude.{ℕ, ◌&&◌, ◌||◌, ◌==◌, Bool, not, if◌then◌else◌, List, codes, length, Option, Some, None}
use Rattle.std.specs.List.{list_all}
use Rattle.clap.specs.Words.{Row, Text, first_of}
use Rattle.dvd_words.specs.Reading.{◌>>=◌}
use Rattle.cap_words.specs.declared.settings.MarkSettings.{MarkSettings}

-- the name of the map, and the statuses that are trusted
pub record MarkAsked : Type 0 where
  pub map : Text
  pub good : Text

abbrev pub mark_asked : MarkSettings → MarkAsked
mark_asked settings = record { map = settings.map.now; good = settings.good.now }

-- a status that a block can have: ? * / - +
abbrev pub is_good_status : ℕ → Bool
is_good_status c = c == 63 || (c == 42 || (c == 47 || (c == 45 || c == 43)))

-- at least one of these statuses, and nothing else
abbrev pub is_good : Text → Bool
is_good text = not (length text == 0) && list_all is_good_status text

-- the statuses that are given, or `+` alone where none are
abbrev pub good_in : Option Text → Option Text
good_in None = Some (codes "+")
good_in (Some text) = if is_good text then Some text else None

-- a map, and statuses that blocks can have
abbrev pub mark_command_of : List Row → Option MarkAsked
mark_command_of rows = do
  map ← first_of (codes "map") rows
  good ← good_in (first_of (codes "good") rows)
  Some (record { map = map; good = good })
