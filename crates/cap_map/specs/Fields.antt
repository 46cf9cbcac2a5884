-- Lines, and the fields of a line between blanks.
use Rattle.std.specs.Prelude.{ℕ, ◌||◌, ◌==◌, Bool, not, if◌then◌else◌, List, [], ◌∷◌, drop, take}
use Rattle.std.specs.List.{prefix_len}

-- a space, a tab or the carriage return of other systems
abbrev pub is_blank : ℕ → Bool
is_blank c = c == 32 || (c == 9 || c == 13)

-- a line's end, or the # that begins a comment
abbrev pub ends_fields : ℕ → Bool
ends_fields c = c == 35

-- how many blanks a text begins with, and how many bytes its next field then has
abbrev pub blanks_of : List ℕ → ℕ
blanks_of = prefix_len is_blank

abbrev pub field_length : List ℕ → ℕ
field_length = prefix_len (λ c. not (is_blank c))

-- the first field of a line; none is the field without a byte
abbrev pub first_field : List ℕ → List ℕ
first_field line = let text = drop (blanks_of line) line in take (field_length text) text

-- what comes after the first field
abbrev pub after_field : List ℕ → List ℕ
after_field line = let text = drop (blanks_of line) line in drop (field_length text) text

-- the line up to its comment
abbrev pub without_comment : List ℕ → List ℕ
without_comment line = take (prefix_len (λ c. not (c == 35)) line) line

-- the bytes before the first line feed
abbrev pub line_length : List ℕ → ℕ
line_length = prefix_len (λ c. not (c == 10))

-- a byte put before the first of these lines, or before none as a line of its own
abbrev pub onto_first : ℕ → List (List ℕ) → List (List ℕ)
onto_first c [] = (c ∷ []) ∷ []
onto_first c (line ∷ lines) = (c ∷ line) ∷ lines

-- The lines of a text: each ends with a line feed, or with the text.
abbrev pub lines_of : List ℕ → List (List ℕ)
lines_of [] = []
lines_of (c ∷ cs) = if c == 10 then [] ∷ lines_of cs else onto_first c (lines_of cs)
