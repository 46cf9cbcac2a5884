-- The table of the commands: what each is called, and which options and limits it has. A command is one row, and a word
-- in `all`.
use Prim.Native.String.{String}
use Rattle.std.specs.Prelude.{Bool, true, false, List, [], ◌∷◌, ◌++◌, map, codes, Some}
use Rattle.clap.specs.Words.{App, Rule, Text, new_rule}
use Rattle.clap.specs.Simple.{new_shape}
use Rattle.clap.specs.declared.builder.action.ArgAction.TheVariants.{Set}
use Rattle.dvd_words.specs.declared.table.Command.{Command}
use Rattle.dvd_words.specs.declared.table.Command.TheVariants.{Frames, Master, Recover, Info, Survey, Exercise, CdMake, CdRead, Merge, Deep, Assemble, Convert}
use Rattle.dvd_words.specs.declared.table.Limit.{Limit}
use Rattle.dvd_words.specs.declared.table.Limit.TheVariants.{Any, Numbers, Addresses, Blocks, WholeDisk}
use Rattle.dvd_words.specs.declared.table.Unit.{Unit}
use Rattle.dvd_words.specs.declared.table.Unit.TheVariants.{Sector, Block, Frame}

-- `--name` with one value, at most once
abbrev pub option_rule : Bool → Text → Rule
option_rule required name = record (new_rule name) { long = Some name; action = Some Set; required = required }

-- options that are required
abbrev pub must : List String → List Rule
must names = map (λ name. option_rule true (codes name)) names

-- options that may be given
abbrev pub may : List String → List Rule
may names = map (λ name. option_rule false (codes name)) names

-- the shape and the lengths of a disk, except that of its first layer, and which of its zones a stream has
abbrev pub layout : List String
layout = "sectors1" ∷ "shape" ∷ "zones" ∷ "initial" ∷ "tail" ∷ []

-- The word that names a command, what its units are, and whether it reads listed captures. Whether it needs a number of
-- sectors or a listed capture, the limit of its numbers, and its options.
pub record Entry : Type 0 where
  pub name : Text
  pub unit : Unit
  pub takes_listed : Bool
  pub sectors_or_listed : Bool
  pub limit : Limit
  pub options : List Rule

-- an entry in the order of its fields
abbrev pub row : String → Unit → Bool → Bool → Limit → List Rule → Entry
row name unit listed or_listed limit options = record {
  name = codes name;
  unit = unit;
  takes_listed = listed;
  sectors_or_listed = or_listed;
  limit = limit;
  options = options;
}

-- the row of each command
abbrev pub command_entry : Command → Entry
command_entry Frames = row "frames" Sector false false Numbers (must ("first" ∷ "sectors" ∷ []))
command_entry Master = row "master" Block false false Any (must ("sectors" ∷ []) ++ may (layout ++ "workers" ∷ "cpr" ∷ []))
command_entry Recover = row "recover" Block true true Any (may ("sectors" ∷ layout ++ "workers" ∷ "form" ∷ []))
command_entry Info = row "info" Block true false Any (may ("initial" ∷ "form" ∷ []))
command_entry Survey = row "survey" Block true true Any (may ("sectors" ∷ layout ++ "workers" ∷ "form" ∷ []))
command_entry Exercise = row "exercise" Block false false Blocks (must ("seed" ∷ "blocks" ∷ []) ++ may ("workers" ∷ []))
command_entry CdMake = row "cdmake" Sector false false Addresses (must ("address" ∷ "sectors" ∷ []))
command_entry CdRead = row "cdread" Sector false false Addresses (must ("address" ∷ "sectors" ∷ []))
command_entry Merge = row "merge" Block false false Any
    (must ("sectors" ∷ []) ++ may (layout ++ "form" ∷ []) ++ must ("captures" ∷ []))
command_entry Deep = row "deep" Block true true Any (may ("sectors" ∷ layout ++ "form" ∷ []))
command_entry Assemble = row "assemble" Frame false false WholeDisk
    (must ("sectors" ∷ "frames" ∷ []) ++ may ("sectors1" ∷ "shape" ∷ "form" ∷ []))
command_entry Convert = row "convert" Block false false Any (must ("sectors" ∷ []) ++ may (layout ++ "form" ∷ []))

-- the commands
abbrev pub all : List Command
all = Frames ∷ Master ∷ Recover ∷ Info ∷ Survey ∷ Exercise ∷ CdMake ∷ CdRead ∷ Merge ∷ Deep ∷ Assemble ∷ Convert ∷ []

-- a command as clap reads it: its word, its options and nothing else, without a flag for help
abbrev pub app_for : Command → App
app_for command = record {
  top = record (new_shape (command_entry command).name) { rules = (command_entry command).options; disable_help_flag = true };
  subs = [];
}
