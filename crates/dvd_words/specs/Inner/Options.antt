-- Commands of clap that get options one after the other.
use Rattle.std.specs.Prelude.{List, ◌++◌}
use Rattle.clap.specs.Words.{App, Rule}

-- a command with these options added after those that it has
abbrev pub with_options : App → List Rule → App
with_options app options = record app { top = record app.top { rules = app.top.rules ++ options } }
