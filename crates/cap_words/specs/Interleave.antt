-- What the arguments of `interleave` ask for.
use Rattle.std.specs.Prelude.{◌≡◌, ◌≢◌, ◌≤◌, ◌&&◌, nat_le, Bool, true, false, not, if◌then◌else◌, List, codes, length, map, Option, Some, None, option_and_then}
use Rattle.std.specs.Str.{bytes_eq}
use Rattle.std.specs.Option.{option_map_or}
use Rattle.clap.specs.Words.{Row, Text, all_of, first_of}
use Rattle.dvd_capture.specs.declared.form.Form.{Form}
use Rattle.dvd_capture.specs.declared.form.Form.TheVariants.{Plain, Marked, Listed}
use Rattle.dvd_words.specs.Reading.{◌>>=◌, value_or}
use Rattle.dvd_words.specs.Words.{form_of}
use Rattle.cap_words.specs.declared.settings.InterleaveSettings.{InterleaveSettings}

-- the form of the captures, whether missing blocks are filled, and the names of the files
pub record InterleaveAsked : Type 0 where
  pub form : Form
  pub fill : Bool
  pub files : List Text

abbrev pub interleave_asked : InterleaveSettings → InterleaveAsked
interleave_asked settings = record { form = settings.form; fill = settings.fill; files = map (λ file. file.now) settings.files.items }

-- a form whose blocks all have the same number of bytes
abbrev pub sized_form : Form → Option Form
sized_form Listed = None
sized_form form = Some form

abbrev pub form_in : Option Text → Option Form
form_in text = option_and_then sized_form (value_or Plain form_of text)

-- a flag has the value `true` where it is given
abbrev pub is_flag_given : Text → List Row → Bool
is_flag_given name rows = option_map_or (λ text. bytes_eq text (codes "true")) (first_of name rows) false

-- only the marked form can say that a byte is lost: the plain one has no marks
abbrev pub may_fill : Form → Bool → Bool
may_fill Marked fill = true
may_fill form fill = not fill

-- from 2 to 16 files
abbrev pub few_files : List Text → Option (List Text)
few_files files = if nat_le 2 (length files) && nat_le (length files) 16 then Some files else None

abbrev pub files_in : List Row → Option (List Text)
files_in rows = option_and_then few_files (all_of (codes "file") rows)

-- a form, from 2 to 16 files, and blocks that are marked whole in the marked form alone
abbrev pub interleave_of : List Row → Option InterleaveAsked
interleave_of rows = do
  form ← form_in (first_of (codes "form") rows)
  files ← files_in rows
  if may_fill form (is_flag_given (codes "fill") rows) then Some (record { form = form; fill = is_flag_given (codes "fill") rows; files = files }) else None

-- what holds of all settings of `interleave`
pub record IsValid (settings : InterleaveSettings) : Type 0 where
  pub form : settings.form ≢ Listed
  pub fill : settings.fill ≡ true → settings.form ≡ Marked
  pub some_files : 2 ≤ length settings.files.items
  pub few_files : length settings.files.items ≤ 16
