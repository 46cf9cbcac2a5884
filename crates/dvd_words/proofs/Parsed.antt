-- What clap makes of the words of a command.
use Rattle.std.proofs.Common.{◌≡◌, true, false, List, [], ◌∷◌, Some, None, refl, arith}
use Rattle.std.proofs.lemmas.Bool.{and_parts}
use Rattle.clap.specs.Words.{App, IsAmong, Kinds, Row, Text, fault_of, is_simple, is_simple_and_free, matches_of}
use Rattle.clap.specs.Walk.{is_empty}
use Rattle.clap.specs.declared.error.kind.ErrorKind.{ErrorKind}
use Rattle.dvd_words.specs.Reading.{rows_by}

-- what clap says exactly it says at all
pub simple : (app : App) → is_simple_and_free app ≡ true → is_simple app ≡ true
simple app free = (and_parts (is_simple app) _ free).0

-- words with no fault have these rows
pub rows_taken : (app : App) (words : List Text) (rows : List Row) → fault_of app words ≡ [] → rows ≡ matches_of app words → rows_by app words ≡ Some rows
rows_taken app words rows none are = rw (none, are) refl

-- kinds that have one among them aren't empty
some_kind : (kind : ErrorKind) (kinds : Kinds) → IsAmong kind kinds → is_empty kinds ≡ false
some_kind kind [] among = absurd among
some_kind kind (k ∷ ks) among = grind arith

-- words with a fault have none
pub rows_refused : (app : App) (words : List Text) (kind : ErrorKind) → IsAmong kind (fault_of app words) → rows_by app words ≡ None
rows_refused app words kind among = rw (some_kind kind (fault_of app words) among) refl
