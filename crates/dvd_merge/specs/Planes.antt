-- What is known of the places of a block as two planes of bytes: the value of each place, and the code of what is known
-- of it.
use Rattle.std.specs.Prelude.{ℕ, ◌==◌, if◌then◌else◌, List}
use Rattle.std.specs.Simd.Lanes.{zip2}
use Rattle.dvd_merge.specs.Join.{Table}
use Rattle.dvd_merge.specs.declared.place.Place.{Place}
use Rattle.dvd_merge.specs.declared.place.Place.TheVariants.{Unseen, Value, Conflict}

-- the place of a value and a code: the value counts where the code is 1 alone
abbrev pub place_from : ℕ → ℕ → Place
place_from value code = if code == 0 then Unseen else if code == 1 then Value value else Conflict

-- the code of a place
abbrev pub code_of : Place → ℕ
code_of Unseen = 0
code_of (Value byte) = 1
code_of Conflict = 2

-- the places of a row
abbrev pub row_of : List ℕ → List ℕ → List Place
row_of values codes = zip2 place_from values codes

-- the places of a block, its rows one after the other
abbrev pub table_of_planes : List (List ℕ) → List (List ℕ) → Table
table_of_planes values codes = zip2 row_of values codes
