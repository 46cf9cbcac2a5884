-- What the rows of the code's table say.
use Rattle.std.specs.Prelude.{List, [], ◌∷◌, map, Option, Some, None, if◌then◌else◌}
use Rattle.std.specs.Str.{bytes_eq}
use Rattle.clap.specs.Words.{Rule, Text}
use Rattle.dvd_words.specs.Table.{Entry, option_rule}
use Rattle.dvd_words.specs.declared.table.Command.{Command}
use Rattle.dvd_words.specs.declared.table.CommandSpec.{CommandSpec}
use Rattle.dvd_words.specs.declared.table.OptionSpec.{OptionSpec}

-- the rule by which clap reads an option
abbrev pub rule : OptionSpec → Rule
rule option = option_rule option.is_required option.name.now

-- what a row says of its command
abbrev pub entry : CommandSpec → Entry
entry row = record {
  name = row.name.now;
  unit = row.unit;
  options = map rule row.options.now;
  takes_listed = row.takes_listed;
  sectors_or_listed = row.sectors_or_listed;
  limit = row.limit;
}

-- the command of the first of these rows that has this name
abbrev pub named_in : Text → List CommandSpec → Option Command
named_in word [] = None
named_in word (row ∷ rows) = if bytes_eq word row.name.now then Some row.command else named_in word rows
