-- What the arguments of a command line ask for.
use Rattle.std.specs.Prelude.{◌≡◌, ◌≤◌, ℕ, ◌+◌, ◌^◌, ◌&&◌, ◌||◌, not, nat_le, Bool, true, if◌then◌else◌, List, [], ◌∷◌, codes, replicate, Option, Some, None, is_some, option_and_then, find}
use Rattle.std.specs.Str.{bytes_eq}
use Rattle.clap.specs.Words.{App, Row, Text, fault_of, first_of, matches_of}
use Rattle.clap.specs.Walk.{is_empty}
use Rattle.dvd_capture.specs.declared.form.Form.{Form}
use Rattle.dvd_capture.specs.declared.form.Form.TheVariants.{Plain, Listed}
use Rattle.dvd_layout.specs.declared.layout.Shape.TheVariants.{Single}
use Rattle.dvd_layout.specs.declared.layout.Zones.TheVariants.{DataOnly}
use Rattle.dvd_words.specs.Table.{all, app_for, command_entry}
use Rattle.dvd_words.specs.Words.{hex_bytes, form_of, number_in, number_within, sector_number_of, shape_of, zones_of}
use Rattle.dvd_words.specs.declared.table.Command.{Command}
use Rattle.dvd_words.specs.declared.table.Command.TheVariants.{Frames, Exercise, CdMake, CdRead, Assemble}
use Rattle.dvd_words.specs.declared.settings.Settings.{Settings}
use Rattle.dvd_words.specs.declared.table.Limit.{Limit}
use Rattle.dvd_words.specs.declared.table.Limit.TheVariants.{Any, Numbers, Addresses, Blocks, WholeDisk}

-- what follows from a value, where there is one
infixl 10 ◌>>=◌
abbrev pub ◌>>=◌ : {A B : Type 0} → Option A → (A → Option B) → Option B
o >>= f = option_and_then f o

-- the command that an argument names
abbrev pub command_of : Text → Option Command
command_of word = find (λ command. bytes_eq word (command_entry command).name) all

-- the options and their values, where clap finds no fault in the arguments
abbrev pub rows_by : App → List Text → Option (List Row)
rows_by app words = if is_empty (fault_of app words) then Some (matches_of app words) else None

abbrev pub rows_for : Command → List Text → Option (List Row)
rows_for command = rows_by (app_for command)

-- what the value of an option says, or the default where it isn't given
abbrev pub value_or : {X : Type 0} → X → (Text → Option X) → Option Text → Option X
value_or default value_of None = Some default
value_or default value_of (Some text) = value_of text

-- Whether the numbers of a command keep its limit: sector numbers end at FFFFFF and addresses at 449,999, and a whole
-- disk that is kept has at most 16,384 sectors on both layers.
abbrev pub is_within : Limit → ℕ → ℕ → ℕ → ℕ → ℕ → Bool
is_within Any first sectors sectors1 blocks address = true
is_within Numbers first sectors sectors1 blocks address = nat_le 1 sectors && nat_le (first + sectors) (2 ^ 24)
is_within Addresses first sectors sectors1 blocks address = nat_le 1 sectors && nat_le (address + sectors) 450000
is_within Blocks first sectors sectors1 blocks address = nat_le 1 blocks
is_within WholeDisk first sectors sectors1 blocks address = nat_le (sectors + sectors1) 16384

-- whether an option is given
abbrev pub is_given : Text → List Row → Bool
is_given name rows = is_some (first_of name rows)

-- whether an option gives the shape of a disk, its lengths or its zones
abbrev pub states_layout : List Row → Bool
states_layout rows =
    is_given (codes "sectors") rows || (is_given (codes "sectors1") rows || (is_given (codes "shape") rows
    || (is_given (codes "zones") rows || (is_given (codes "initial") rows || is_given (codes "tail") rows))))

-- the commands that read listed captures
abbrev pub takes_listed : Command → Bool
takes_listed command = (command_entry command).takes_listed

-- The layout is stated once: a listed capture states its own, and then no option may; else the arguments state it.
abbrev pub has_layout : Command → Form → List Row → Bool
has_layout command Listed rows = takes_listed command && not (states_layout rows)
has_layout command other rows = not (command_entry command).sectors_or_listed || is_given (codes "sectors") rows

-- each option by its form, the layout stated once, and the limit of the command kept
unfoldable pub settings_of : Command → List Row → Option Settings
settings_of command rows = do
  first ← value_or 0 sector_number_of (first_of (codes "first") rows)
  sectors ← value_or 0 number_in (first_of (codes "sectors") rows)
  sectors1 ← value_or 0 number_in (first_of (codes "sectors1") rows)
  shape ← value_or Single shape_of (first_of (codes "shape") rows)
  zones ← value_or DataOnly zones_of (first_of (codes "zones") rows)
  initial ← value_or 0 number_in (first_of (codes "initial") rows)
  tail ← value_or 16 number_in (first_of (codes "tail") rows)
  cpr ← value_or (replicate 6 0) (hex_bytes 6) (first_of (codes "cpr") rows)
  form ← value_or Plain form_of (first_of (codes "form") rows)
  workers ← value_or 1 (number_within 1 16) (first_of (codes "workers") rows)
  seed ← value_or 0 number_in (first_of (codes "seed") rows)
  blocks ← value_or 0 (number_within 1 4096) (first_of (codes "blocks") rows)
  address ← value_or 0 number_in (first_of (codes "address") rows)
  captures ← value_or 0 (number_within 2 16) (first_of (codes "captures") rows)
  frames ← value_or 0 (number_within 1 4294967295) (first_of (codes "frames") rows)
  if has_layout command form rows && is_within (command_entry command).limit first sectors sectors1 blocks address then Some (record {
    command = command;
    first = first;
    sectors = sectors;
    sectors1 = sectors1;
    shape = shape;
    zones = zones;
    initial = initial;
    tail = tail;
    cpr = cpr;
    form = form;
    workers = workers;
    seed = seed;
    blocks = blocks;
    address = address;
    captures = captures;
    frames = frames;
  }) else None

-- the first argument names the command, and clap reads those after it
unfoldable pub reading : List Text → Option Settings
reading [] = None
reading (word ∷ words) = do
  command ← command_of word
  rows ← rows_for command (word ∷ words)
  settings_of command rows

-- these arguments ask for these settings
abbrev pub Reads : List Text → Settings → Type 0
Reads words settings = reading words ≡ Some settings

-- what holds of all settings that arguments ask for
pub record IsValid (settings : Settings) : Type 0 where
  pub some_worker : 1 ≤ settings.workers
  pub few_workers : settings.workers ≤ 16
  pub some_block : settings.command ≡ Exercise → 1 ≤ settings.blocks
  pub few_blocks : settings.blocks ≤ 4096
  pub few_captures : settings.captures ≤ 16
  pub some_sector : settings.command ≡ Frames → 1 ≤ settings.sectors
  pub last_sector : settings.command ≡ Frames → settings.first + settings.sectors ≤ 2 ^ 24
  pub some_made : settings.command ≡ CdMake → 1 ≤ settings.sectors
  pub last_made : settings.command ≡ CdMake → settings.address + settings.sectors ≤ 450000
  pub some_read : settings.command ≡ CdRead → 1 ≤ settings.sectors
  pub last_read : settings.command ≡ CdRead → settings.address + settings.sectors ≤ 450000
  pub listed : settings.form ≡ Listed → takes_listed settings.command ≡ true
  pub few_sectors : settings.command ≡ Assemble → settings.sectors + settings.sectors1 ≤ 16384
