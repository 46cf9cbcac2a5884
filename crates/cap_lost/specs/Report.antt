-- What a whole report says: the sectors of refused blocks, or the first line that breaks a rule.
use Rattle.std.specs.Prelude.{◌≡◌, ℕ, ◌+◌, ◌-◌, ◌++◌, ◌==◌, nat_lt, Bool, true, if◌then◌else◌, List, [], ◌∷◌, codes, false, length, slice_get, slice_set, Option, Some, None, is_some, Result, Ok, Err}
use Rattle.cap_map.specs.Fields.{lines_of}
use Rattle.dvd_layout.specs.declared.layout.Layout.{Layout}
use Rattle.dvd_layout.specs.declared.layout.Zones.{Zones}
use Rattle.cap_lost.specs.Blocks.{block_said}
use Rattle.cap_lost.specs.Closings.{closing_said}
use Rattle.cap_lost.specs.Prefixes.{without_prefix}
use Rattle.cap_lost.specs.declared.draft.Said.{Said}
use Rattle.cap_lost.specs.declared.draft.Said.TheVariants.{Refused, GivenBack, Ended}
use Rattle.cap_lost.specs.declared.extent.Extent.{Extent}
use Rattle.cap_lost.specs.declared.fault.ReportCause.{ReportCause}
use Rattle.cap_lost.specs.declared.fault.ReportCause.TheVariants as causes
use Rattle.cap_lost.specs.declared.fault.ReportFault.{ReportFault}
use Rattle.cap_lost.specs.declared.fault.ReportFault.TheVariants.{NoMemory, ReadFault, Rule}

-- What was said so far: the sectors of refused blocks, and the sector after those of the last block that was named. How
-- many blocks were refused, and, once that is said, how many sectors were written.
pub record Sayings : Type 0 where
  pub extents : List Extent
  pub next : ℕ
  pub refused : ℕ
  pub written : Option ℕ

-- what a whole report says
pub record Losses : Type 0 where
  pub extents : List Extent
  pub written : ℕ

abbrev pub nothing_said : Sayings
nothing_said = record { extents = []; next = 0; refused = 0; written = None }

-- the last of these, if there is one
abbrev pub last_of : List Extent → Option Extent
last_of extents = slice_get extents (length extents - 1)

-- it ends at a sector
abbrev pub is_end : Option Extent → ℕ → Bool
is_end None sector = false
is_end (Some last) sector = last.to == sector

-- these, with another end of the last
abbrev pub with_end : List Extent → Option Extent → ℕ → List Extent
with_end extents None to = extents
with_end extents (Some last) to = slice_set extents (length extents - 1) (record { from = last.from; to = to })

-- one more extent: the last one grows by it, where it ends at its first sector
abbrev pub with_extent : List Extent → Extent → List Extent
with_extent extents extent =
    if is_end (last_of extents) extent.from then with_end extents (last_of extents) extent.to else extents ++ extent ∷ []

-- the count that a closing line may have
abbrev pub is_count : ℕ → Option ℕ → Bool
is_count refused None = true
is_count refused (Some count) = count == refused

-- One more line. Blocks are named in the order of the image, and the end comes after all that are named.
abbrev pub with_said : Sayings → Said → Result Sayings ReportCause
with_said said (Refused extent) =
    if nat_lt extent.from said.next then Err causes.Order
    else Ok (record { extents = with_extent said.extents extent; next = extent.to; refused = said.refused + 1; written = said.written })
with_said said (GivenBack extent) = if nat_lt extent.from said.next then Err causes.Order else Ok (record said { next = extent.to })
with_said said (Ended count written) =
    if is_count said.refused count then (if nat_lt written said.next then Err causes.Order else Ok (record said { written = Some written })) else Err causes.Count

-- what one line says by itself
abbrev pub word_said : Layout → Zones → List ℕ → Option (List ℕ) → Result Said ReportCause
word_said layout zones line None = closing_said layout zones line
word_said layout zones line (Some rest) = block_said layout zones line rest

abbrev pub line_said : Layout → Zones → List ℕ → Result Said ReportCause
line_said layout zones line = word_said layout zones line (without_prefix (codes "block ") line)

-- a line more, if it says something
abbrev pub with_result : Sayings → Result Said ReportCause → Result Sayings ReportCause
with_result said (Ok more) = with_said said more
with_result said (Err cause) = Err cause

-- No line of a report has more than 128 bytes, and none comes after the closing line.
abbrev pub line_read : Layout → Zones → Sayings → List ℕ → Result Sayings ReportCause
line_read layout zones said line =
    if nat_lt 128 (length line) then Err causes.Line
    else (if is_some said.written then Err causes.AfterEnd else with_result said (line_said layout zones line))

-- what comes after a line with this result and this number
abbrev pub after_line : ℕ → Result Sayings ReportCause → (Sayings → Result Losses ReportFault) → Result Losses ReportFault
after_line number (Ok said) rest = rest said
after_line number (Err cause) rest = Err (Rule number cause)

-- after the last line: it has to be the closing line
abbrev pub at_end : ℕ → List Extent → Option ℕ → Result Losses ReportFault
at_end number extents None = Err (Rule number causes.NoEnd)
at_end number extents (Some written) = Ok (record { extents = extents; written = written })

abbrev pub lines_read : Layout → Zones → Sayings → ℕ → List (List ℕ) → Result Losses ReportFault
lines_read layout zones said number [] = at_end number said.extents said.written
lines_read layout zones said number (line ∷ lines) =
    after_line number (line_read layout zones said line) (λ next. lines_read layout zones next (number + 1) lines)

-- What a report says of the image of this layout. Its lines are counted from 1.
abbrev pub losses_of : Layout → Zones → List ℕ → Result Losses ReportFault
losses_of layout zones text = lines_read layout zones nothing_said 1 (lines_of text)

-- A fault is that of the report. Where there is no memory, or a read failed, nothing is claimed of the report.
abbrev pub IsFaultOf : Result Losses ReportFault → ReportFault → Type 0
IsFaultOf read NoMemory = Unit {0}
IsFaultOf read ReadFault = ⊥
IsFaultOf read (Rule line cause) = read ≡ Err (Rule line cause)
