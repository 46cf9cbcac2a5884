-- The marks of a row as bits: 23 bytes, of which each has eight marks, the most significant bit first.
-- The last two bits of the last byte are spare.
use Rattle.std.specs.Prelude.{ℕ, ◌+◌, ◌-◌, ◌*◌, ◌/◌, ◌%◌, ◌==◌, Bool, true, false, not, if◌then◌else◌, List, [], ◌∷◌, ◌++◌, map, take, drop, slice_index}
use Rattle.std.specs.Int.{bit_at}
use Rattle.std.specs.List.{fold, range_with_len}

-- the mark of place j
abbrev pub mark_at : List ℕ → ℕ → Bool
mark_at bytes j = bit_at (slice_index bytes (j / 8)) (7 - j % 8) == 1

-- the marks of all 182 places
unfoldable pub marks_of : List ℕ → List Bool
marks_of bytes = map (mark_at bytes) (range_with_len 0 182)

-- whether a byte of its own says that a place is marked
abbrev pub is_set : ℕ → Bool
is_set byte = if byte == 0 then false else true

-- whether a byte of its own marks a place, as any but this one does
abbrev pub is_other : ℕ → ℕ → Bool
is_other value byte = not (byte == value)

-- a number with one binary digit more at its end, which is this mark
abbrev pub with_mark_bit : ℕ → Bool → ℕ
with_mark_bit number mark = 2 * number + (if mark then 1 else 0)

-- the number whose binary digits are these marks, the first the highest
unfoldable pub number_of_marks : List Bool → ℕ
number_of_marks marks = fold with_mark_bit 0 marks

-- byte k of the mark bits of a row: a digit for each of eight places, and after the last place two that are 0
abbrev pub mark_byte : List Bool → ℕ → ℕ
mark_byte marks k = number_of_marks (take 8 (drop (8 * k) (marks ++ false ∷ false ∷ [])))

-- the 23 bytes of these marks, with spare bits of 0
unfoldable pub mark_bytes : List Bool → List ℕ
mark_bytes marks = map (mark_byte marks) (range_with_len 0 23)
