-- Ours: a table as a captured block in the marked form: its 208 recorded rows (ECMA-267, 19) in order, each of 182
-- bytes and 23 bytes of mark bits.
use Rattle.std.specs.Prelude.{ℕ, List, ◌++◌, map}
use Rattle.coding.specs.Recording.{recording}
use Rattle.dvd_capture.specs.MarkBits.{mark_bytes}
use Rattle.dvd_merge.specs.Join.{Table, byte_of, joined_mark}
use Rattle.dvd_merge.specs.declared.place.Place.{Place}

-- Ours: a row in the marked form
unfoldable pub marked_row : List Place → List ℕ
marked_row places = map byte_of places ++ mark_bytes (map joined_mark places)

-- Ours: the whole block
abbrev pub marked_text : Table → List ℕ
marked_text table = recording (map marked_row table)
