-- What is read of a captured block, by its two passes and its frames.
use Rattle.std.proofs.Common.{◌≡◌, ◌∙◌, ℕ, Bool, cond, List, length, replicate, refl, sym, ap, is_none, Some, None}
use Rattle.std.specs.Option.{option_or}
use Rattle.std.specs.declared.option.Option.{Option}
use Rattle.coding.specs.TwoPass.{answers_of}
use Rattle.dvd_capture.proofs.Columns.{length-answers_of}
use Rattle.dvd_layout.specs.declared.entry.BlockPlan.{BlockPlan}
use Rattle.dvd_decoding.specs.declared.cause.Cause.{Cause}
use Rattle.dvd_decoding.specs.Causes.{two_pass_cause}
use Rattle.dvd_decoding.specs.Frames.{frames_cause, main_data}
use Rattle.dvd_decoding.specs.Reading.{block_cause, block_in, block_sectors, IsReadAs}
use Rattle.dvd_read.proofs.Outcomes.{agrees-no_cause, found-agrees, no_cause-agrees}

module _ (rows : List (List ℕ)) (marks : List (List Bool)) (entry : BlockPlan) where
  -- where neither the two passes nor the frames have a cause, the block has none
  none_by_both : two_pass_cause (answers_of rows marks) ≡ None → frames_cause (block_in rows marks) entry ≡ None → block_cause rows marks entry ≡ None
  unfolding block_cause
  none_by_both passes frames = ap (λ cause. option_or cause (frames_cause (block_in rows marks) entry)) passes ∙ frames

  -- and conversely
  pub both_of_none : block_cause rows marks entry ≡ None → (two_pass_cause (answers_of rows marks) ≡ None) × (frames_cause (block_in rows marks) entry ≡ None)
  unfolding block_cause
  both_of_none = parts (two_pass_cause (answers_of rows marks)) where
    -- where a first cause or else another is none, neither is
    parts : (passes : Option Cause) → option_or passes (frames_cause (block_in rows marks) entry) ≡ None
        → (passes ≡ None) × (frames_cause (block_in rows marks) entry ≡ None)
    parts None is = (refl, is)
    parts (Some cause) is = cc

  -- without a cause the sectors are the Main Data of the block that is found
  sectors_read : block_cause rows marks entry ≡ None → block_sectors rows marks entry ≡ main_data (block_in rows marks) entry
  unfolding block_sectors
  sectors_read is = ap (λ cause. cond (is_none cause) (main_data (block_in rows marks) entry) (replicate 16 (replicate 2048 0))) is

  -- What is read is determined by the rows and marks.
  pub read-determined : (sectors : List (List ℕ)) → length rows ≡ 208 → length marks ≡ 208 → IsReadAs rows marks entry sectors
      → (block_cause rows marks entry ≡ None) × (sectors ≡ block_sectors rows marks entry)
  read-determined sectors size marks_size read =
      let answers_size = length-answers_of rows marks 208 size marks_size in
      let passes = agrees-no_cause (answers_of rows marks) read.block answers_size read.agrees in
      let found : block_in rows marks ≡ read.block = found-agrees (answers_of rows marks) read.block answers_size read.agrees in
      let none = none_by_both passes (ap (λ (b : List (List ℕ)). frames_cause b entry) found ∙ read.right) in
      (none, read.main ∙ ap (λ (b : List (List ℕ)). main_data b entry) (sym found) ∙ sym (sectors_read none))

  -- A block without a cause is read.
  pub no_cause-read : length rows ≡ 208 → length marks ≡ 208 → block_cause rows marks entry ≡ None → IsReadAs rows marks entry (block_sectors rows marks entry)
  no_cause-read size marks_size none = record {
    block = block_in rows marks;
    agrees = no_cause-agrees (answers_of rows marks) (length-answers_of rows marks 208 size marks_size) (both_of_none none).0;
    right = (both_of_none none).1;
    main = sectors_read none;
  }
