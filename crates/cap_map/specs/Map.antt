-- What a whole map says: its spans, or the first line that breaks a rule.
use Rattle.std.specs.Prelude.{◌≡◌, ℕ, ◌+◌, ◌-◌, ◌++◌, ◌==◌, nat_lt, Bool, true, false, if◌then◌else◌, List, [], ◌∷◌, length, Option, Some, None, Result, Ok, Err}
use Rattle.std.specs.List.{slice_get}
use Rattle.cap_map.specs.Fields.{lines_of}
use Rattle.cap_map.specs.Lines.{Fields4, map_block, line_fields, is_among, is_empty_field, is_state}
use Rattle.cap_map.specs.declared.fault.MapCause.{MapCause}
use Rattle.cap_map.specs.declared.fault.MapCause.TheVariants.{Gap, Overlap, State}
use Rattle.cap_map.specs.declared.fault.MapFault.{MapFault}
use Rattle.cap_map.specs.declared.fault.MapFault.TheVariants.{NoMemory, Rule}
use Rattle.cap_map.specs.declared.line.MapBlock.{MapBlock}
use Rattle.cap_map.specs.declared.span.Span.{Span}

-- What was read so far: whether the state has come, and the spans.
pub record MapRead : Type 0 where
  pub opened : Bool
  pub spans : List Span

-- the end of a span, if there is one
abbrev pub end_or : ℕ → Option Span → ℕ
end_or end None = end
end_or end (Some span) = span.end

-- the end of the last span, if there is one
abbrev pub end_after : ℕ → List Span → ℕ
end_after end spans = end_or end (slice_get spans (length spans - 1))

-- Before the first block the map says nothing.
abbrev pub with_first_span : List Span → ℕ → List Span
with_first_span [] position = if position == 0 then [] else record { end = position; rescued = false } ∷ []
with_first_span (span ∷ spans) position = span ∷ spans

-- Where the first block begins is free, and each further one begins where the one before it ends.
abbrev pub with_block : List ℕ → List Span → MapBlock → Result (List Span) MapCause
with_block good spans block =
    if nat_lt block.position (end_after block.position spans) then Err Overlap
    else (if nat_lt (end_after block.position spans) block.position then Err Gap
    else Ok (with_first_span spans block.position ++ record { end = block.end; rescued = is_among good block.status } ∷ []))

-- a result with another value
abbrev pub then_read : Result (List Span) MapCause → Result MapRead MapCause
then_read (Ok spans) = Ok (record { opened = true; spans = spans })
then_read (Err cause) = Err cause

abbrev pub with_result : List ℕ → List Span → Result MapBlock MapCause → Result MapRead MapCause
with_result good spans (Ok block) = then_read (with_block good spans block)
with_result good spans (Err cause) = Err cause

-- A line without a field changes nothing. The first other line is the state, and each after that is a block.
abbrev pub line_read : List ℕ → MapRead → Fields4 → Result MapRead MapCause
line_read good read fields =
    if is_empty_field fields.first then Ok read
    else (if read.opened then with_result good read.spans (map_block fields)
    else (if is_state fields then Ok (record { opened = true; spans = read.spans }) else Err State))

-- what comes after a line with this result and this number
abbrev pub after_line : ℕ → Result MapRead MapCause → (MapRead → Result (List Span) MapFault) → Result (List Span) MapFault
after_line number (Ok read) rest = rest read
after_line number (Err cause) rest = Err (Rule number cause)

abbrev pub lines_read : List ℕ → MapRead → ℕ → List (List ℕ) → Result (List Span) MapFault
lines_read good read number [] = if read.opened then Ok read.spans else Err (Rule number State)
lines_read good read number (line ∷ lines) =
    after_line number (line_read good read (line_fields line)) (λ next. lines_read good next (number + 1) lines)

-- The spans of a map in which these statuses are trusted. Its lines are counted from 1.
abbrev pub map_of : List ℕ → List ℕ → Result (List Span) MapFault
map_of good text = lines_read good (record { opened = false; spans = [] }) 1 (lines_of text)

-- A fault is that of the map. Where there is no memory, nothing is claimed of the map.
abbrev pub IsFaultOf : Result (List Span) MapFault → MapFault → Type 0
IsFaultOf read NoMemory = Unit {0}
IsFaultOf read (Rule line cause) = read ≡ Err (Rule line cause)
