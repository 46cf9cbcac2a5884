-- What the lines that `recover` and `deep` write of blocks say.
use Rattle.std.specs.Prelude.{ℕ, ◌+◌, ◌++◌, ◌||◌, ◌==◌, Bool, false, if◌then◌else◌, List, codes, length, bytes_eq, Option, Some, None, option_and_then, Result, Ok, Err, slice_get}
use Rattle.dvd_layout.specs.Content.{image_from}
use Rattle.dvd_layout.specs.Place.{image_sectors}
use Rattle.dvd_layout.specs.Plan.{plan_of}
use Rattle.dvd_layout.specs.declared.entry.BlockPlan.{BlockPlan}
use Rattle.dvd_layout.specs.declared.entry.Content.{Content}
use Rattle.dvd_layout.specs.declared.layout.Layout.{Layout}
use Rattle.dvd_layout.specs.declared.layout.Zones.{Zones}
use Rattle.dvd_report.specs.Lines.{block_text}
use Rattle.cap_lost.specs.Prefixes.{without_prefix, after_number, after_eight_digits, number_first}
use Rattle.cap_lost.specs.declared.draft.Said.{Said}
use Rattle.cap_lost.specs.declared.draft.Said.TheVariants.{Refused, GivenBack}
use Rattle.cap_lost.specs.declared.extent.Extent.{Extent}
use Rattle.cap_lost.specs.declared.fault.ReportCause.{ReportCause}
use Rattle.cap_lost.specs.declared.fault.ReportCause.TheVariants.{Line, Block, Place, NoImage}

-- a text is equal to another
abbrev pub is_text : List ℕ → List ℕ → Bool
is_text other text = bytes_eq text other

-- it is there, and passes a test
abbrev pub is_some_and : Option (List ℕ) → (List ℕ → Bool) → Bool
is_some_and None passes = false
is_some_and (Some text) passes = passes text

-- how many of sixteen frames were salvaged, and nothing more
abbrev pub is_saved : List ℕ → Bool
is_saved text = is_some_and (option_and_then (after_number 17) (without_prefix (codes " saved ") text)) (λ rest. length rest == 0)

-- a cause of this name with a number below a bound, and how many frames were salvaged
abbrev pub is_numbered : List ℕ → ℕ → List ℕ → Bool
is_numbered name bound what = is_some_and (option_and_then (after_number bound) (without_prefix name what)) is_saved

-- what comes after a frame's number and the ID that it has
abbrev pub after_address : List ℕ → Option (List ℕ)
after_address what = option_and_then after_eight_digits (option_and_then (without_prefix (codes " found ")) (option_and_then (after_number 16) (without_prefix (codes "address ") what)))

-- the cause of a refused block, and how many of its frames were salvaged
abbrev pub is_refusal : List ℕ → Bool
is_refusal what =
    is_numbered (codes "rows ") 209 what || (is_numbered (codes "column ") 182 what || (is_numbered (codes "row ") 208 what
    || (is_numbered (codes "ied ") 16 what || (is_numbered (codes "edc ") 16 what || is_some_and (after_address what) is_saved))))

-- the round that gave a block back
abbrev pub is_round : List ℕ → Bool
is_round what = is_text (codes "round 1") what || (is_text (codes "round 2") what || (is_text (codes "round 3") what || is_text (codes "round 4") what))

-- the image sectors of a block with this content; padding sectors aren't
abbrev pub extent_of : Layout → Content → Extent
extent_of layout content = record { from = image_from content; to = image_from content + image_sectors layout content }

-- what is said of the block with these image sectors
abbrev pub what_said : Extent → List ℕ → Result Said ReportCause
what_said extent what = if is_refusal what then Ok (Refused extent) else (if is_round what then Ok (GivenBack extent) else Err Line)

-- what each line of block k begins with
abbrev pub prefix_of : ℕ → BlockPlan → List ℕ
prefix_of k entry = block_text k entry ++ codes ": "

-- what a line of block k says after that beginning
abbrev pub after_prefix : Layout → BlockPlan → Option (List ℕ) → Result Said ReportCause
after_prefix layout entry None = Err Place
after_prefix layout entry (Some what) =
    if image_sectors layout entry.content == 0 then Err NoImage else what_said (extent_of layout entry.content) what

-- block k of a layout, if it has one
abbrev pub entry_said : Layout → ℕ → List ℕ → Option BlockPlan → Result Said ReportCause
entry_said layout k line None = Err Block
entry_said layout k line (Some entry) = after_prefix layout entry (without_prefix (prefix_of k entry) line)

-- the block that a line names, by the number and the text after the first word
abbrev pub number_said : Layout → Zones → List ℕ → Option (ℕ × List ℕ) → Result Said ReportCause
number_said layout zones line None = Err Line
number_said layout zones line (Some found) = entry_said layout found.0 line (slice_get (plan_of layout zones) found.0)

-- what a line says of a block
abbrev pub block_said : Layout → Zones → List ℕ → List ℕ → Result Said ReportCause
block_said layout zones line rest = number_said layout zones line (number_first rest)
