-- What is answered to a captured block that is read as a block of a disk, and what is salvaged of it.
use Rattle.std.specs.Prelude.{ℕ, ◌≢◌, ◌+◌, ◌/◌, ◌%◌, ◌^◌, nat_lt, ◌==◌, Bool, List, Result, Ok, Err, if◌then◌else◌, is_some, map}
use Rattle.std.specs.List.{range_with_len}
use Rattle.std.specs.declared.option.Option.{Option}
use Rattle.std.specs.declared.option.Option.TheVariants.{Some, None}
use Rattle.coding.specs.TwoPass.{answers_of}
use Rattle.dvd_decoding.specs.Frames.{main_data}
use Rattle.dvd_decoding.specs.Reading.{block_cause, block_in}
use Rattle.dvd_decoding.specs.Salvage.{block_out, rescued}
use Rattle.dvd_frame.specs.declared.id.Area.{Area}
use Rattle.dvd_frame.specs.declared.id.Area.TheVariants.{DataZone, LeadIn, LeadOut, Middle}
use Rattle.dvd_layout.specs.Place.{HasNumbers}
use Rattle.dvd_layout.specs.declared.entry.BlockPlan.{BlockPlan}
use Rattle.dvd_layout.specs.declared.entry.Content.{Content}
use Rattle.dvd_layout.specs.declared.entry.Content.TheVariants.{Zero, Reference}
use Rattle.dvdecc_c.specs.Blocks.{block_or, block_status, report_of}
use Rattle.dvdecc_c.specs.declared.blocks.Report.{Report}
use Rattle.dvdecc_c.specs.declared.status.TheConstants.{OK, NO_MEMORY, BAD_RULE, BAD_ID}

-- the area of a number
abbrev pub area_numbered : ℕ → Area
area_numbered number =
    if number == 0 then DataZone else if number == 1 then LeadIn else if number == 2 then LeadOut else Middle

-- a content whose first frame has the rule of this number, where the blocks of a disk have one
abbrev pub content_ruled : ℕ → Option Content
content_ruled rule = if rule == 0 then Some Zero else if rule == 2 then Some Reference else None

-- The block of a disk whose first frame has this ID word: b27 and b26 are its area, b24 is its layer, b23 to b0 are its
-- sector number. The numbers of its sixteen frames have 24 bits.
abbrev pub block_named : ℕ → Content → Result BlockPlan ℕ
block_named id content =
    if nat_lt (id % 2 ^ 24 + 15) (2 ^ 24) then
    Ok (record { first = id % 2 ^ 24; area = area_numbered (id / 2 ^ 26 % 4); layer = id / 2 ^ 24 % 2; content = content })
    else Err BAD_ID

-- the same of a content, if there is one
abbrev pub block_with : ℕ → Option Content → Result BlockPlan ℕ
block_with id None = Err BAD_RULE
block_with id (Some content) = block_named id content

-- the block that a caller asks for, or the status of what is wrong with it
abbrev pub asked_block : ℕ → ℕ → Result BlockPlan ℕ
asked_block id rule = block_with id (content_ruled rule)

-- the numbers of a block that may be asked for are in range, and what is wrong with another isn't reported as missing
-- memory
abbrev pub HasAsked : Result BlockPlan ℕ → Type 0
HasAsked (Err status) = status ≢ NO_MEMORY
HasAsked (Ok entry) = HasNumbers entry

-- the status by the block alone
abbrev pub asked_status : Result BlockPlan ℕ → ℕ
asked_status (Err status) = status
asked_status (Ok entry) = OK

-- the status of what was received, by its cause
abbrev pub read_status : Result BlockPlan ℕ → List (List ℕ) → List (List Bool) → ℕ
read_status (Err status) rows marks = status
read_status (Ok entry) rows marks = block_status (block_cause rows marks entry)

-- the sectors of what was received, or those of before where there is a cause
abbrev pub read_sectors : Result BlockPlan ℕ → List (List ℕ) → List (List Bool) → List (List ℕ) → List (List ℕ)
read_sectors (Err status) rows marks before = before
read_sectors (Ok entry) rows marks before = block_or (block_cause rows marks entry) (main_data (block_in rows marks) entry) before

-- the report of what was received
abbrev pub report_read : Result BlockPlan ℕ → List (List ℕ) → List (List Bool) → Report → Report
report_read (Err status) rows marks before = before
report_read (Ok entry) rows marks before = report_of (block_cause rows marks entry) rows (answers_of rows marks)

-- the sectors that are salvaged of what was received
abbrev pub salvaged_sectors : Result BlockPlan ℕ → List (List ℕ) → List (List Bool) → List (List ℕ) → List (List ℕ)
salvaged_sectors (Err status) rows marks before = before
salvaged_sectors (Ok entry) rows marks before = block_out rows marks entry

-- which of the sixteen frames are salvaged: 1 for each that is, 0 for any other
unfoldable pub saved_frames : List (List ℕ) → List (List Bool) → BlockPlan → List ℕ
saved_frames rows marks entry = map (λ f. if is_some (rescued (answers_of rows marks) entry f) then 1 else 0) (range_with_len 0 16)

-- the same of the block that a caller asks for
abbrev pub salvaged_frames : Result BlockPlan ℕ → List (List ℕ) → List (List Bool) → List ℕ → List ℕ
salvaged_frames (Err status) rows marks before = before
salvaged_frames (Ok entry) rows marks before = saved_frames rows marks entry
