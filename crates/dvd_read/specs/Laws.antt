-- The laws of reading a block.
use Rattle.std.specs.Prelude.{◌≡◌, ℕ, ◌+◌, ◌*◌, ◌<◌, ◌≤◌, Bool, List, map, length, None, Some}
use Rattle.std.specs.List.{range_with_len}
use Rattle.coding.specs.Words.{cost}
use Rattle.coding.specs.Product.{IsBlockOf, line}
use Rattle.dvd_capture.specs.Answers.{marks_line}
use Rattle.coding.specs.TwoPass.{IsTwoPass, answers_of}
use Rattle.coding.specs.Within.{IsWithin}
use Rattle.dvd_layout.specs.declared.entry.BlockPlan.{BlockPlan}
use Rattle.dvd_layout.specs.Place.{HasNumbers}
use Rattle.dvd_decoding.specs.Causes.{two_pass_cause}
use Rattle.dvd_decoding.specs.Frames.{main_data}
use Rattle.dvd_decoding.specs.Salvage.{block_out, saved_in}
use Rattle.dvd_decoding.specs.declared.cause.Cause.{Cause}
use Rattle.dvd_decoding.specs.Made.{IsMadeOf, IsReceived}
use Rattle.dvd_decoding.specs.Reading.{block_cause, block_in, block_sectors, IsReadAs}

-- where two passes have no cause, the block found has two-pass agreement
abbrev pub NoCauseIsTwoPass : Type 0
NoCauseIsTwoPass =
    (received : List (List ℕ)) (marks : List (List Bool)) → length received ≡ 208 → length marks ≡ 208
    → two_pass_cause (answers_of received marks) ≡ None → IsTwoPass received marks (block_in received marks)

-- where some block has it, there is no cause, and the block found is that block
abbrev pub TwoPassIsFound : Type 0
TwoPassIsFound =
    (received : List (List ℕ)) (marks : List (List Bool)) (block : List (List ℕ)) → length received ≡ 208 → length marks ≡ 208
    → IsTwoPass received marks block → (two_pass_cause (answers_of received marks) ≡ None) × (block_in received marks ≡ block)

-- what is read as an entry has no cause, and its sectors are those of the block found
abbrev pub WhatIsReadIsDetermined : Type 0
WhatIsReadIsDetermined =
    (rows : List (List ℕ)) (marks : List (List Bool)) (entry : BlockPlan) (sectors : List (List ℕ)) → length rows ≡ 208 → length marks ≡ 208
    → IsReadAs rows marks entry sectors → (block_cause rows marks entry ≡ None) × (sectors ≡ block_sectors rows marks entry)

-- and where there is no cause, these sectors are read
abbrev pub NoCauseIsRead : Type 0
NoCauseIsRead =
    (rows : List (List ℕ)) (marks : List (List Bool)) (entry : BlockPlan) → length rows ≡ 208 → length marks ≡ 208
    → block_cause rows marks entry ≡ None → IsReadAs rows marks entry (block_sectors rows marks entry)

-- Where twice the bad rows plus the lost rows is at most 16 against the block that was recorded of sixteen data frames,
-- what is read has no cause, and the sectors are the Main Data of these frames.
abbrev pub WithinIsReadBack : Type 0
WithinIsReadBack =
    (entry : BlockPlan) (dim : Bool) (cpr : List ℕ) (main : ℕ → List ℕ) (frames block received : List (List ℕ)) (marks : List (List Bool)) → HasNumbers entry
    → IsMadeOf entry dim cpr main frames → IsBlockOf frames block → IsReceived received marks → IsWithin block received marks
    → (block_cause received marks entry ≡ None) × (block_sectors received marks entry ≡ map main (range_with_len 0 16))

-- Of a block without a cause all sixteen frames are saved, and the sectors are those of the block found.
abbrev pub NoCauseIsWhollySaved : Type 0
NoCauseIsWhollySaved =
    (rows : List (List ℕ)) (marks : List (List Bool)) (entry : BlockPlan) → IsReceived rows marks → block_cause rows marks entry ≡ None
    → (saved_in rows marks entry ≡ 16) × (block_out rows marks entry ≡ main_data (block_in rows marks) entry)

-- Where two passes refuse a block, a frame whose twelve rows are good against the block that was recorded is saved.
abbrev pub GoodRowsAreSaved : Type 0
GoodRowsAreSaved =
    (entry : BlockPlan) (dim : Bool) (cpr : List ℕ) (main : ℕ → List ℕ) (frames block received : List (List ℕ)) (marks : List (List Bool)) (cause : Cause) (f : ℕ)
    → HasNumbers entry → IsMadeOf entry dim cpr main frames → IsBlockOf frames block → IsReceived received marks
    → two_pass_cause (answers_of received marks) ≡ Some cause → f < 16
    → ((q : ℕ) → q < 12 → cost (line block (12 * f + q)) (line received (12 * f + q)) (marks_line marks (12 * f + q)) ≤ 10)
    → line (block_out received marks entry) f ≡ main f

-- What is saved are sixteen sectors of 2,048 bytes, of sixteen frames at most.
abbrev pub SavedIsSixteenSectors : Type 0
SavedIsSixteenSectors =
    (rows : List (List ℕ)) (marks : List (List Bool)) (entry : BlockPlan) → length rows ≡ 208 → length marks ≡ 208
    → (length (block_out rows marks entry) ≡ 16) × ((f : ℕ) → f < 16 → length (line (block_out rows marks entry) f) ≡ 2048) × (saved_in rows marks entry ≤ 16)
