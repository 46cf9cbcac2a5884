-- Ours: what is read by rounds of a captured block, as an entry of a plan. It is the block of the first round that
-- finishes, or where none does what two passes answer.
use Rattle.std.specs.Prelude.{◌≡◌, ℕ, Bool, List, None, Some}
use Rattle.std.specs.declared.option.Option.{Option}
use Rattle.dvd_layout.specs.declared.entry.BlockPlan.{BlockPlan}
use Rattle.dvd_decoding.specs.Frames.{frames_cause, main_data}
use Rattle.dvd_decoding.specs.Reading.{block_cause}
use Rattle.dvd_decoding.specs.declared.cause.Cause.{Cause}
use Rattle.dvd_deep.specs.Rounds.{deep_block, deep_round}

-- the cause of the block that was found, or else that of the two passes
abbrev pub cause_by : List (List ℕ) → List (List Bool) → BlockPlan → Option (List (List ℕ)) → Option Cause
cause_by received marks entry None = block_cause received marks entry
cause_by received marks entry (Some block) = frames_cause block entry

-- why a block that is read by rounds is refused, or none
unfoldable pub deep_cause : List (List ℕ) → List (List Bool) → BlockPlan → Option Cause
deep_cause received marks entry = cause_by received marks entry (deep_block received marks)

-- The sectors are those of the block that round t gives back, and its frames are right.
pub record IsDeep (received : List (List ℕ)) (marks : List (List Bool)) (entry : BlockPlan) (t : ℕ) (sectors : List (List ℕ)) : Type 0 where
  pub block : List (List ℕ)
  pub first : deep_round received marks ≡ Some t
  pub gives : deep_block received marks ≡ Some block
  pub right : frames_cause block entry ≡ None
  pub main : sectors ≡ main_data block entry
