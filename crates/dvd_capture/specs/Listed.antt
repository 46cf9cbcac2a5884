-- Ours: the listed form of a captured block. Its unit has the 37,856 bytes of the recorded rows, and after them fields
-- of two bytes: the number of its runs, and for each run its start and its length. A run marks so many places from its
-- start on.
use Rattle.std.specs.Prelude.{◌≡◌, ◌⊎◌, ℕ, zero, suc, ◌+◌, ◌-◌, ◌*◌, ◌/◌, ◌%◌, ◌<◌, ◌≤◌, Bool, false, nat_le, nat_lt, ◌&&◌, ◌||◌, List, length, map, slice_index, slice_index_or}
use Rattle.std.specs.List.{range_with_len}
use Rattle.coding.specs.Recording.{row_at}
use Rattle.dvd_capture.specs.Answers.{marks_line}

-- the field at an offset, its first byte being the most significant
unfoldable pub field_at : List ℕ → ℕ → ℕ
field_at bytes offset = 256 * slice_index bytes offset + slice_index bytes (offset + 1)

-- the number of runs
abbrev pub run_count : List ℕ → ℕ
run_count bytes = field_at bytes 37_856

-- the start of run i: its first place
abbrev pub start_of : List ℕ → ℕ → ℕ
start_of bytes i = field_at bytes (37_858 + 4 * i)

-- the length of run i: how many places it has
abbrev pub length_of : List ℕ → ℕ → ℕ
length_of bytes i = field_at bytes (37_860 + 4 * i)

-- the end of run i: the place after its last one
abbrev pub end_of : List ℕ → ℕ → ℕ
end_of bytes i = start_of bytes i + length_of bytes i

-- the bytes of the unit that begins so
abbrev pub listed_size : List ℕ → ℕ
listed_size bytes = 37_858 + 4 * run_count bytes

-- The rules. There are at most 18,928 runs. A run starts at a place of the block, and from the second run on above the
-- end of the run before. It has a place, and all its places are those of the block.
abbrev pub BreaksNumber : List ℕ → Type 0
BreaksNumber bytes = 18_928 < run_count bytes

-- the start of run i is no place of the block, or isn't above the end of the run before
abbrev pub BreaksStart : List ℕ → ℕ → Type 0
BreaksStart bytes i = (37_856 ≤ start_of bytes i) ⊎ ((0 < i) × (start_of bytes i ≤ end_of bytes (i - 1)))

-- run i has no place, or one that isn't a place of the block
abbrev pub BreaksLength : List ℕ → ℕ → Type 0
BreaksLength bytes i = (length_of bytes i ≡ 0) ⊎ (37_856 < end_of bytes i)

-- the field at an offset is one of the unit's, and breaks a rule
abbrev pub IsBadField : List ℕ → ℕ → Type 0
IsBadField bytes offset =
    ((offset ≡ 37_856) × BreaksNumber bytes)
    ⊎ ((i : ℕ) × (i < run_count bytes) × (((offset ≡ 37_858 + 4 * i) × BreaksStart bytes i) ⊎ ((offset ≡ 37_860 + 4 * i) × BreaksLength bytes i)))

-- and it is wholly in these bytes
abbrev pub HasBadField : List ℕ → ℕ → Type 0
HasBadField bytes offset = (offset + 2 ≤ length bytes) × IsBadField bytes offset

-- no field that is wholly in these bytes breaks a rule
abbrev pub IsUnbroken : List ℕ → Type 0
IsUnbroken bytes = (offset : ℕ) → HasBadField bytes offset → ⊥

-- one does, and the first of them is there
pub record IsBrokenAt (bytes : List ℕ) (at : ℕ) : Type 0 where
  pub bad : HasBadField bytes at
  pub first : (offset : ℕ) → HasBadField bytes offset → at ≤ offset

-- whether one of the first n runs marks a place
unfoldable pub marked_by : List ℕ → ℕ → ℕ → Bool
marked_by bytes zero place = false
marked_by bytes (suc n) place = marked_by bytes n place || (nat_le (start_of bytes n) place && nat_lt place (end_of bytes n))

-- the marks of recorded row m: its place j is place 182 m + j of the block
abbrev pub listed_row : List ℕ → ℕ → List Bool
listed_row bytes m = map (λ j. marked_by bytes (run_count bytes) (182 * m + j)) (range_with_len 0 182)

-- the mark of a place of the block
abbrev pub mark_of : List (List Bool) → ℕ → Bool
mark_of marks place = slice_index_or (marks_line marks (row_at (place / 182))) (place % 182) false
