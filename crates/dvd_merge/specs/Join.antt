-- Ours: several captures of one ECC block (ECMA-267, 18) joined place by place. A table has what is known of each
-- place:
-- 208 rows of 182 places.
use Rattle.std.specs.Prelude.{ℕ, ◌==◌, Bool, true, false, if◌then◌else◌, List, [], map, replicate, slice_index_or}
use Rattle.std.specs.List.{fold}
use Rattle.std.specs.Simd.Lanes.{zip2}
use Rattle.dvd_merge.specs.declared.place.Place.{Place}
use Rattle.dvd_merge.specs.declared.place.Place.TheVariants.{Unseen, Value, Conflict}

-- what is known of each place, row by row
abbrev pub Table : Type 0
Table = List (List Place)

-- Ours: what two captures know of a place. One that hasn't seen it changes nothing, and two values make a conflict,
-- which stays.
unfoldable pub join : Place → Place → Place
join Unseen other = other
join (Value a) Unseen = Value a
join (Value a) (Value b) = if a == b then Value a else Conflict
join (Value a) Conflict = Conflict
join Conflict other = Conflict

-- Ours: what a capture knows of a place: nothing where it is marked, its byte elsewhere
abbrev pub seen : ℕ → Bool → Place
seen byte mark = if mark then Unseen else Value byte

-- Ours: the table of one row of a captured block
abbrev pub seen_row : List ℕ → List Bool → List Place
seen_row bytes marks = zip2 seen bytes marks

-- Ours: the table of a captured block, its rows one after the other
unfoldable pub seen_table : List (List ℕ) → List (List Bool) → Table
seen_table rows marks = zip2 seen_row rows marks

-- Ours: the join of two rows, place by place
abbrev pub join_rows : List Place → List Place → List Place
join_rows a b = zip2 join a b

-- Ours: the join of two tables, row by row
unfoldable pub join_tables : Table → Table → Table
join_tables a b = zip2 join_rows a b

-- Ours: the table in which no place is seen
unfoldable pub unseen : Table
unseen = replicate 208 (replicate 182 Unseen)

-- Ours: the join of the tables of all captures
unfoldable pub joined : List Table → Table
joined tables = fold join_tables unseen tables

-- what is known of the places of row i
abbrev pub known_row : Table → ℕ → List Place
known_row table i = slice_index_or table i []

-- what is known of the place in row i at j, unseen past the end
abbrev pub known_at : Table → ℕ → ℕ → Place
known_at table i j = slice_index_or (known_row table i) j Unseen

-- Ours: the byte of a place, 0 where none is known
abbrev pub byte_of : Place → ℕ
byte_of (Value byte) = byte
byte_of Unseen = 0
byte_of Conflict = 0

-- Ours: whether no one byte is known of a place
abbrev pub joined_mark : Place → Bool
joined_mark (Value byte) = false
joined_mark Unseen = true
joined_mark Conflict = true

-- Ours: the rows of a table as bytes
unfoldable pub joined_rows : Table → List (List ℕ)
joined_rows table = map (map byte_of) table

-- Ours: its rows as marks
unfoldable pub joined_marks : Table → List (List Bool)
joined_marks table = map (map joined_mark) table
