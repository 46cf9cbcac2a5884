-- What one line of a map says, and which rule it breaks.
use Rattle.std.specs.Prelude.{ℕ, ◌+◌, ◌^◌, ◌&&◌, ◌||◌, ◌==◌, nat_le, Bool, not, if◌then◌else◌, List, codes, length, slice_index, Option, Some, None, is_some, Result, Ok, Err}
use Rattle.std.specs.List.{list_any}
use Rattle.cap_map.specs.Fields.{after_field, first_field, without_comment}
use Rattle.cap_map.specs.Numbers.{written_number}
use Rattle.cap_map.specs.declared.fault.MapCause.{MapCause}
use Rattle.cap_map.specs.declared.fault.MapCause.TheVariants.{Fields, Number, Status, Empty, TooLong}
use Rattle.cap_map.specs.declared.line.MapBlock.{MapBlock}

-- there is no such field
abbrev pub is_empty_field : List ℕ → Bool
is_empty_field field = length field == 0

-- whether a byte is among these
abbrev pub is_among : List ℕ → ℕ → Bool
is_among bytes byte = list_any (λ b. b == byte) bytes

-- one of these bytes alone
abbrev pub is_one_of : List ℕ → List ℕ → Bool
is_one_of bytes field = length field == 1 && is_among bytes (slice_index field 0)

-- whether a field is a number
abbrev pub is_number : List ℕ → Bool
is_number field = is_some (written_number field)

-- the first four fields of a line, without its comment; those that it doesn't have are empty
pub record Fields4 : Type 0 where
  pub first : List ℕ
  pub second : List ℕ
  pub third : List ℕ
  pub fourth : List ℕ

abbrev pub line_fields : List ℕ → Fields4
line_fields line =
    let a = without_comment line in let b = after_field a in let c = after_field b in let d = after_field c in
    record { first = first_field a; second = first_field b; third = first_field c; fourth = first_field d }

-- The state: a position, what the run was doing, and perhaps the number of its pass. Nothing of it is used.
abbrev pub is_state : Fields4 → Bool
is_state fields =
    is_number fields.first && (is_one_of (codes "?*/-FG+") fields.second && ((is_empty_field fields.third || is_number fields.third) && is_empty_field fields.fourth))

-- a block of that size from that position on, if it has a byte and ends below 2 ^ 63
abbrev pub sized_block : ℕ → ℕ → ℕ → Result MapBlock MapCause
sized_block position size status =
    if size == 0 then Err Empty
    else (if nat_le (2 ^ 63) (position + size) then Err TooLong else Ok (record { position = position; end = position + size; status = status }))

-- likewise by the numbers in its fields, where they are numbers
abbrev pub numbered_block : Option ℕ → Option ℕ → List ℕ → Result MapBlock MapCause
numbered_block None size status = Err Number
numbered_block (Some position) None status = Err Number
numbered_block (Some position) (Some size) status =
    if is_one_of (codes "?*/-+") status then sized_block position size (slice_index status 0) else Err Status

-- A block: a position, a size and a status, and no further field.
abbrev pub map_block : Fields4 → Result MapBlock MapCause
map_block fields =
    if is_empty_field fields.third || not (is_empty_field fields.fourth) then Err Fields
    else numbered_block (written_number fields.first) (written_number fields.second) fields.third
