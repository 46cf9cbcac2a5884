-- A unit of `exercise`, and how its loop ends.
use Rattle.std.proofs.Common.{◌≡◌, ◌≢◌, ◌∙◌, ◌⊎◌, inl, inr, ℕ, ◌+◌, ◌^◌, ◌<◌, ◌≤◌, List, [], ◌∷◌, ◌++◌, replicate, slice_get, None, Some, refl, sym, ap, subst, arith}
use Rattle.coding.specs.Product.{IsBlockOf}
use Rattle.dvd_capture.specs.Parts.{marks_rows, received_rows}
use Rattle.dvd_capture.specs.Works.{marks_of_work, rows_of, sectors_of, stage_of}
use Rattle.dvd_capture.specs.declared.stage.Stage.TheVariants.{Fixed}
use Rattle.dvd_capture.specs.declared.work.Work.{Work}
use Rattle.dvd_exercise.specs.Damage.{IsHurt, hurt_state}
use Rattle.dvd_exercise.specs.Generator.{bytes_from, state_after}
use Rattle.dvd_layout.specs.Plan.{plan_of}
use Rattle.dvd_layout.specs.declared.entry.BlockPlan.{BlockPlan}
use Rattle.dvd_layout.specs.declared.layout.Layout.{Layout}
use Rattle.dvd_layout.specs.declared.layout.Shape.TheVariants.{Single}
use Rattle.dvd_layout.specs.declared.layout.Zones.TheVariants.{DataOnly}
use Rattle.dvd_loop.specs.Machine.{IsOutcome, Outcome}
use Rattle.dvd_loop.specs.Machine.Prefix.{Cut, Whole}
use Rattle.dvd_loop.specs.Streams.{HaveReached, SourceCounts, no_stream, streams}
use Rattle.dvd_loop.specs.declared.ends.AfterLast.TheVariants as after_last
use Rattle.dvd_loop.specs.declared.ends.LoopEnd.{LoopEnd}
use Rattle.dvd_loop.specs.declared.ends.LoopEnd.TheVariants.{BadHeader, BadMarks, Damaged, Done, Long, NoControl, ReadFault, ReportFault, Short, ShortHeader, WriteFault}
use Rattle.dvd_loop.proofs.PlainEnds.{never_bad_header, never_bad_marks, never_damaged, never_long, never_no_control, never_short, never_short_header}
use Rattle.dvd_loop.proofs.Sizes.{sized_enough, sized_never_broken}
use Rattle.dvd_ports.specs.Memory.{SliceState, slice_seen}
use Rattle.dvd_ports.specs.Seen.{Seen}
use Rattle.dvd_ports.proofs.StopLemmas.{unmoved}
use Rattle.dvd_decoding.specs.Reading.{IsReadAs, block_cause}
use Rattle.dvd_commands.specs.Exercise.{IsHurtBlock, IsLeft, drawn_sectors, exercise_units, no_marks, state_at}
use Rattle.dvd_commands.specs.Master.{frames_of}
use Rattle.dvd_commands.specs.Inner.Exercising.{CountsOne, HaveBeenTried}
use Rattle.dvd_commands.specs.declared.exercise.Counts.{Counts}
use Rattle.dvd_commands.proofs.exercise.Blocks.{IsFound, data_entry, drawn_entry, drawn_mastered, is_found}
use Rattle.dvd_commands.proofs.exercise.Trials.{one_more}

-- Entry k of a disk with one layer, of which a block was made and hurt.
module _ (blocks k x : ℕ) (layout : Layout) (single : layout.shape ≡ Single) (within : k < blocks) (few : blocks ≤ 4096)
    (entry : BlockPlan) (is_there : slice_get (plan_of layout DataOnly) k ≡ Some entry) (piece : List ℕ) (block : List (List ℕ)) (work : Work)
    (drawn : piece ≡ bytes_from x 32768) (made : IsBlockOf (frames_of layout entry (replicate 6 0) piece) block)
    (hurt : IsHurt (state_after x 32768) block no_marks (rows_of work) (marks_of_work work)) where
  -- the entry is the one that is drawn for block k
  pub entry_is : entry ≡ drawn_entry k
  entry_is = data_entry layout single k entry is_there

  -- the work holds block k, made of what was drawn and then hurt
  hurt_block : IsHurtBlock k x block (rows_of work) (marks_of_work work)
  hurt_block = record {
    made = subst (λ frames. IsBlockOf frames block) (drawn_mastered layout k entry (bytes_from x 32768) single is_there)
        (subst (λ l. IsBlockOf (frames_of layout entry (replicate 6 0) l) block) drawn made);
    hurt = hurt;
  }

  -- so no cause is found of it, and the block and its sectors are found again
  pub found_block : IsFound k (bytes_from x 32768) block (rows_of work) (marks_of_work work)
  found_block = is_found k x block (rows_of work) (marks_of_work work) (omega (arith, within, few)) hurt_block

  -- nor is one found of it as the entry that the plan has there
  pub no_cause : block_cause (rows_of work) (marks_of_work work) entry ≡ None
  no_cause = ap (block_cause (rows_of work) (marks_of_work work)) entry_is ∙ found_block.cause

  -- It is read, and counted.
  module _ (seed : ℕ) (image : List ℕ) (image_is : image ≡ piece) (old new : Counts) (old_work new_work : Work) (new_state : ℕ)
      (before : HaveBeenTried seed k x old old_work) (state_is : new_state ≡ hurt_state (state_after x 32768))
      (read : IsReadAs (rows_of work) (marks_of_work work) entry (sectors_of new_work))
      (counted : sectors_of new_work ≡ drawn_sectors image → CountsOne (rows_of work) (marks_of_work work) old new)
      (fixed_most : new.fixed ≤ old.fixed + 2 ^ 32) (failed_most : new.failed ≤ old.failed + 2 ^ 16)
      (stage : stage_of new_work ≡ Fixed) (received : new_work.received ≡ work.received) (marks : new_work.marks ≡ work.marks) where
    -- the sectors that were read of it are those that were drawn
    sectors_are : sectors_of new_work ≡ drawn_sectors (bytes_from x 32768)
    sectors_are = found_block.sectors (sectors_of new_work) (subst (λ e. IsReadAs (rows_of work) (marks_of_work work) e (sectors_of new_work)) entry_is read)

    -- the work holds block k as it was read back
    block_left : IsLeft seed k new_work
    block_left = record {
      stage = stage;
      block = block;
      hurt = subst (λ m. IsHurtBlock k (state_at seed k) block (rows_of new_work) m) (ap (λ m. marks_rows m) (sym marks))
          (subst (λ r. IsHurtBlock k (state_at seed k) block r (marks_of_work work)) (ap (λ r. received_rows r) (sym received))
          (subst (λ y. IsHurtBlock k y block (rows_of work) (marks_of_work work)) before.state_is hurt_block));
      sectors = sectors_are ∙ ap (λ y. drawn_sectors (bytes_from y 32768)) before.state_is;
    }

    -- so the unit has come after block k
    pub moved_on : HaveBeenTried seed (k + 1) new_state new new_work
    moved_on =
        one_more seed k x new_state old new old_work new_work before
        (record { block = block; rows = rows_of work; marks = marks_of_work work })
        (subst (λ y. IsHurtBlock k y block (rows_of work) (marks_of_work work)) before.state_is hurt_block)
        state_is found_block.found
        (counted (sectors_are ∙ ap drawn_sectors (sym (image_is ∙ drawn))))
        fixed_most failed_most block_left

-- of no bytes none were taken
none_came : (taken left : List ℕ) → [] ≡ taken ++ left → [] ≡ taken
none_came [] left is = refl
none_came (byte ∷ taken) left is = let no : [] ≡ byte ∷ (taken ++ left) = is in cc

-- A source without bytes gives none: the run is one without a source.
pub no_source : (P : List ℕ → Outcome → Type 0) (source new_source : SliceState) (output new_output report new_report : Seen) (end : LoopEnd)
    → source.left ≡ []
    → HaveReached P (streams (slice_seen source) output report) (streams (slice_seen new_source) new_output new_report) end
    → HaveReached P (streams no_stream output report) (streams no_stream new_output new_report) end
no_source P source new_source output new_output report new_report end empty comes = record {
  bytes = comes.bytes;
  known = tt;
  outcome = comes.outcome;
  holds = comes.holds;
  ends = comes.ends;
  moved = record {
    reads = record { log = none_came comes.outcome.taken new_source.left (sym empty ∙ comes.moved.reads.loses); loses = tt };
    writes = comes.moved.writes;
    reports = comes.moved.reports;
  };
}

-- so no read fails
pub never_read : (end : LoopEnd) (old new : SliceState) → SourceCounts end (slice_seen old) (slice_seen new) → end ≢ ReadFault
never_read end old new counts is =
    let failed : SourceCounts ReadFault (slice_seen old) (slice_seen new) = subst (λ e. SourceCounts e (slice_seen old) (slice_seen new)) is counts in
    omega (arith, failed.faults)

-- and a source that is not there never stopped
pub unread : (end : LoopEnd) → (end ≡ Done) ⊎ (end ≡ WriteFault) → SourceCounts end no_stream no_stream
unread end (inl is) = subst (λ e. SourceCounts e no_stream no_stream) (sym is) (inr (unmoved no_stream))
unread end (inr is) = subst (λ e. SourceCounts e no_stream no_stream) (sym is) (unmoved no_stream)

-- the loop is done, or its line can't be written
pub write_end : (seed blocks : ℕ) (bytes : List ℕ) (outcome : Outcome) → IsOutcome (exercise_units seed blocks) bytes outcome
    → (end : LoopEnd) → outcome.end ≡ end → end ≢ ReadFault → end ≢ ReportFault → (end ≡ Done) ⊎ (end ≡ WriteFault)
write_end seed blocks bytes outcome runs Done is read known = inl refl
write_end seed blocks bytes outcome runs WriteFault is read known = inr refl
write_end seed blocks bytes outcome runs ReadFault is read known = absurd (read refl)
write_end seed blocks bytes outcome runs ReportFault is read known = absurd (known refl)
write_end seed blocks bytes outcome runs (Short k held) is read known =
    absurd (never_short (exercise_units seed blocks) bytes outcome runs (λ j own cut. let no : Whole 0 ≡ Cut = sym (sized_enough 0 own (omega arith)) ∙ cut in cc) k held is)
write_end seed blocks bytes outcome runs Long is read known =
    absurd (never_long (exercise_units seed blocks) bytes outcome runs (λ asks. let no : after_last.Done ≡ after_last.EndOfInput = asks in cc) is)
write_end seed blocks bytes outcome runs (Damaged bad) is read known =
    absurd (never_damaged (exercise_units seed blocks) bytes outcome runs (λ k before own steps does. let no = does.1 in cc) bad is)
write_end seed blocks bytes outcome runs NoControl is read known =
    absurd (never_no_control (exercise_units seed blocks) bytes outcome runs (λ none. let no : after_last.Done ≡ after_last.NoControl = none in cc) is)
write_end seed blocks bytes outcome runs (BadMarks k at) is read known =
    absurd (never_bad_marks (exercise_units seed blocks) bytes outcome runs (λ j place own broken. sized_never_broken 0 place own broken) k at is)
write_end seed blocks bytes outcome runs (ShortHeader held) is read known = absurd (never_short_header (exercise_units seed blocks) bytes outcome runs held is)
write_end seed blocks bytes outcome runs (BadHeader at) is read known = absurd (never_bad_header (exercise_units seed blocks) bytes outcome runs at is)
