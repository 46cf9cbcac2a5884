-- What the closing line of the report of an image says.
use Rattle.std.specs.Prelude.{ℕ, ◌||◌, nat_lt, Bool, if◌then◌else◌, List, codes, length, take, Option, Some, None, option_and_then, option_map, Result, Ok, Err}
use Rattle.dvd_layout.specs.Place.{image_before, total_sectors}
use Rattle.dvd_layout.specs.Plan.{plan_of}
use Rattle.dvd_layout.specs.declared.layout.Layout.{Layout}
use Rattle.dvd_layout.specs.declared.layout.Zones.{Zones}
use Rattle.cap_lost.specs.Blocks.{is_text}
use Rattle.cap_lost.specs.Prefixes.{without_prefix, number_first}
use Rattle.cap_lost.specs.declared.draft.Said.{Said}
use Rattle.cap_lost.specs.declared.draft.Said.TheVariants.{Ended}
use Rattle.cap_lost.specs.declared.fault.ReportCause.{ReportCause}
use Rattle.cap_lost.specs.declared.fault.ReportCause.TheVariants.{Line, Block, Fault}

-- a fault, after which more was to be written
abbrev pub is_fault : List ℕ → Bool
is_fault line = is_text (codes "read fault") line || is_text (codes "write fault") line

-- the number between two texts, where nothing else is in a line
abbrev pub number_between : List ℕ → List ℕ → List ℕ → Option ℕ
number_between first last line =
    option_and_then (λ found. if is_text last found.1 then Some found.0 else None) (option_and_then number_first (without_prefix first line))

-- how many blocks were refused, by the line of a whole image
abbrev pub counted_in : List ℕ → Option ℕ
counted_in line =
    if is_text (codes "done") line then Some 0 else number_between (codes "damaged: ") (codes " blocks") line

-- the number after the first text, if a further number is between the two others
abbrev pub number_before : List ℕ → List ℕ → List ℕ → List ℕ → Option ℕ
number_before first middle last line =
    option_and_then (λ found. option_map (λ more. found.0) (number_between middle last found.1)) (option_and_then number_first (without_prefix first line))

-- the first of two numbers, if there is one
abbrev pub or_other : Option ℕ → Option ℕ → Option ℕ
or_other (Some k) other = Some k
or_other None other = other

-- the block in which the run stopped: the capture ended there, or its marks break a rule
abbrev pub stopped_in : List ℕ → Option ℕ
stopped_in line =
    or_other (number_before (codes "short: block ") (codes ", ") (codes " bytes") line) (number_before (codes "bad marks: block ") (codes ", byte ") (codes "") line)

-- The run stopped in block k: the image sectors of the blocks before it were written.
abbrev pub stopped_at : Layout → Zones → ℕ → Result Said ReportCause
stopped_at layout zones k =
    if nat_lt k (length (plan_of layout zones)) then Ok (Ended None (image_before layout (take k (plan_of layout zones)))) else Err Block

abbrev pub stop_said : Layout → Zones → Option ℕ → Result Said ReportCause
stop_said layout zones None = Err Line
stop_said layout zones (Some k) = stopped_at layout zones k

-- a whole image, with the blocks that were refused
abbrev pub count_said : Layout → Option ℕ → Result Said ReportCause → Result Said ReportCause
count_said layout None other = other
count_said layout (Some refused) other = Ok (Ended (Some refused) (total_sectors layout))

-- What a line says that names no block. After `long` the image is whole, but the blocks that were refused aren't
-- counted.
abbrev pub closing_said : Layout → Zones → List ℕ → Result Said ReportCause
closing_said layout zones line =
    if is_fault line then Err Fault
    else (if is_text (codes "long") line then Ok (Ended None (total_sectors layout))
    else count_said layout (counted_in line) (stop_said layout zones (stopped_in line)))
