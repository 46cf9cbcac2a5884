-- What the arguments of a command line ask for.
use Rattle.std.specs.Prelude.{◌≡◌, ◌≤◌, if◌then◌else◌, List, [], ◌∷◌, codes, Option, Some, None, option_map}
use Rattle.std.specs.Str.{bytes_eq}
use Rattle.clap.specs.Words.{Row, Text}
use Rattle.dvd_words.specs.Reading.{◌>>=◌, rows_by}
use Rattle.dvd_words.specs.declared.settings.Settings.{Settings as RunSettings}
use Rattle.cap_words.specs.Apps.{app_for}
use Rattle.cap_words.specs.Draw.{draw_of}
use Rattle.cap_words.specs.Interleave.{InterleaveAsked, IsValid, interleave_asked, interleave_of}
use Rattle.cap_words.specs.Lost.{lost_of}
use Rattle.cap_words.specs.Mark.{MarkAsked, mark_asked, mark_command_of}
use Rattle.cap_words.specs.declared.settings.Command.{Command}
use Rattle.cap_words.specs.declared.settings.Command.TheVariants.{Mark, Interleave, Lost, Draw}
use Rattle.cap_words.specs.declared.settings.DrawSettings.{DrawSettings}
use Rattle.cap_words.specs.declared.settings.Settings.{Settings}
use Rattle.cap_words.specs.declared.settings.Settings.TheVariants as settings

-- what is asked for, with the texts of the arguments themselves
pub data Asked : Type 0 where
  AsksMark : MarkAsked → Asked
  AsksInterleave : InterleaveAsked → Asked
  AsksLost : RunSettings → Asked
  AsksDraw : DrawSettings → Asked

abbrev pub asked_by : Settings → Asked
asked_by (settings.Mark marking) = AsksMark (mark_asked marking)
asked_by (settings.Interleave interleaving) = AsksInterleave (interleave_asked interleaving)
asked_by (settings.Lost losing) = AsksLost losing
asked_by (settings.Draw drawing) = AsksDraw drawing

-- the command that an argument names
abbrev pub command_of : Text → Option Command
command_of word =
    if bytes_eq word (codes "mark") then Some Mark
    else (if bytes_eq word (codes "interleave") then Some Interleave
    else (if bytes_eq word (codes "lost") then Some Lost
    else (if bytes_eq word (codes "draw") then Some Draw else None)))

-- the options, the files and their values, where clap finds no fault in the arguments
abbrev pub rows_for : Command → List Text → Option (List Row)
rows_for command = rows_by (app_for command)

-- each option by its form
abbrev pub settings_of : Command → List Row → Option Asked
settings_of Mark rows = option_map AsksMark (mark_command_of rows)
settings_of Interleave rows = option_map AsksInterleave (interleave_of rows)
settings_of Lost rows = option_map AsksLost (lost_of rows)
settings_of Draw rows = option_map AsksDraw (draw_of rows)

-- the first argument names the command, and clap reads those after it
unfoldable pub reading : List Text → Option Asked
reading [] = None
reading (word ∷ words) = do
  command ← command_of word
  rows ← rows_for command (word ∷ words)
  settings_of command rows

-- these arguments ask for these settings
abbrev pub Asks : List Text → Settings → Type 0
Asks words settings = reading words ≡ Some (asked_by settings)

-- what holds of all settings that arguments ask for
abbrev pub AreValid : Settings → Type 0
AreValid (settings.Mark marking) = Unit {0}
AreValid (settings.Interleave interleaving) = IsValid interleaving
AreValid (settings.Lost losing) = Unit {0}
AreValid (settings.Draw drawing) = (100 ≤ drawing.width) × (drawing.width ≤ 4000)
