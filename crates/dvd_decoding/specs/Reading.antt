-- What is read of a captured block as an entry of a plan: its cause, or its sixteen sectors.
use Rattle.std.specs.Prelude.{◌≡◌, ℕ, Bool, List, replicate, is_none, None, if◌then◌else◌}
use Rattle.std.specs.Option.{option_or}
use Rattle.std.specs.declared.option.Option.{Option}
use Rattle.coding.specs.TwoPass.{IsTwoPass, answers_of}
use Rattle.dvd_layout.specs.declared.entry.BlockPlan.{BlockPlan}
use Rattle.dvd_decoding.specs.declared.cause.Cause.{Cause}
use Rattle.dvd_decoding.specs.Causes.{two_pass_cause}
use Rattle.coding.specs.Found.{block_found}
use Rattle.dvd_decoding.specs.Frames.{frames_cause, main_data}

-- the block that two passes find in these rows and marks
abbrev pub block_in : List (List ℕ) → List (List Bool) → List (List ℕ)
block_in received marks = block_found (answers_of received marks)

-- why it is refused: by the two passes, or else by its frames
unfoldable pub block_cause : List (List ℕ) → List (List Bool) → BlockPlan → Option Cause
block_cause received marks entry = option_or (two_pass_cause (answers_of received marks)) (frames_cause (block_in received marks) entry)

-- its sixteen sectors; those of a block that is refused are zeros
unfoldable pub block_sectors : List (List ℕ) → List (List Bool) → BlockPlan → List (List ℕ)
block_sectors received marks entry =
    if is_none (block_cause received marks entry) then main_data (block_in received marks) entry else replicate 16 (replicate 2048 0)

-- The sectors are those of the one block that two passes determine, and its frames are right.
pub record IsReadAs (rows : List (List ℕ)) (marks : List (List Bool)) (entry : BlockPlan) (sectors : List (List ℕ)) : Type 0 where
  pub block : List (List ℕ)
  pub agrees : IsTwoPass rows marks block
  pub right : frames_cause block entry ≡ None
  pub main : sectors ≡ main_data block entry
