-- The clap command of each command.
use Rattle.std.specs.Prelude.{true, false, List, [], ◌∷◌, ◌++◌, map, codes, Some}
use Rattle.clap.specs.Words.{App, Rule, Text, new_rule}
use Rattle.clap.specs.Simple.{new_shape}
use Rattle.clap.specs.declared.builder.action.ArgAction.TheVariants.{Append, SetTrue}
use Rattle.dvd_words.specs.Table.{layout, may, must, option_rule}
use Rattle.cap_words.specs.declared.settings.Command.{Command}
use Rattle.cap_words.specs.declared.settings.Command.TheVariants.{Mark, Interleave, Lost, Draw}

-- `--name` without a value, at most once
abbrev pub flag_rule : Text → Rule
flag_rule name = record (new_rule name) { long = Some name; action = Some SetTrue }

-- the arguments that are neither options nor values of options: at least one file
abbrev pub file_rule : Rule
file_rule = record (new_rule (codes "file")) { action = Some Append; required = true }

-- a command with these and nothing else, without a flag for help
abbrev pub app_with : Text → List Rule → App
app_with name rules = record { top = record (new_shape name) { rules = rules; disable_help_flag = true }; subs = [] }

abbrev pub bare_app : Text → App
bare_app name = app_with name []

-- a command with these options added, none of which is required
abbrev pub with_options : App → List Text → App
with_options app names = record app { top = record app.top { rules = app.top.rules ++ map (option_rule false) names } }

-- the options that each command requires, and those that may be given
abbrev pub app_for : Command → App
app_for Mark = app_with (codes "mark") (option_rule true (codes "map") ∷ option_rule false (codes "good") ∷ [])
app_for Interleave = app_with (codes "interleave") (option_rule true (codes "form") ∷ flag_rule (codes "fill") ∷ file_rule ∷ [])
app_for Lost = app_with (codes "lost") (must ("sectors" ∷ []) ++ may layout)
app_for Draw = app_with (codes "draw") (option_rule false (codes "width") ∷ [])
