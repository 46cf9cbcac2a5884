-- What a source gave of a block or a frame, as the loop goes on by it.
use Rattle.std.proofs.Common.{◌≡◌, ◌≢◌, ◌<◌, inl, inr, ℕ, List, Bool, Result, refl, ap, subst, sym, arith}
use Rattle.std.specs.Prelude.{IfErr, OnOk}
use Rattle.dvd_assemble.specs.Frames.{FrameEndsAfter, frame_size}
use Rattle.dvd_capture.specs.Fetching.{FetchCounts, Fetches}
use Rattle.dvd_capture.specs.declared.capture.FetchAnswer.{FetchAnswer}
use Rattle.dvd_capture.specs.declared.capture.FetchAnswer.TheVariants.{BadMarks, End, Full, ReadFault, Short}
use Rattle.dvd_capture.specs.declared.form.Form.{Form}
use Rattle.dvd_loop.specs.UnitCommand.{EndsShort, HasReadCause}
use Rattle.dvd_loop.specs.declared.ends.LoopEnd.{LoopEnd}
use Rattle.dvd_loop.specs.declared.ends.LoopEnd.TheVariants as ends
use Rattle.dvd_loop.proofs.StreamLemmas.{reads_end, reads_on}
use Rattle.dvd_ports.specs.Seen.{Seen}
use Rattle.dvd_ports.specs.Whole.{ConsumesFewer}
use Rattle.dvd_commands.specs.Inner.Performing.{EndsCaptured, fetched}
use Rattle.dvd_commands.proofs.CapturedUnits.{ends_after, ends_broken, ends_failed}

-- what holds of a whole unit holds where the loop goes on
on_full : (P : Type 0) (answer : FetchAnswer) (k : ℕ) → (answer ≡ Full → P) → OnOk (fetched answer k) P
on_full P Full k then = then refl
on_full P End k then = tt
on_full P (Short bytes) k then = tt
on_full P ReadFault k then = tt
on_full P (BadMarks at) k then = tt

-- a fault, or the end of the input, was the last call of the source
causes_of : (answer : FetchAnswer) (k : ℕ) (old new : Seen) → FetchCounts answer old new → HasReadCause (fetched answer k) old new
causes_of Full k old new counts = λ output report. reads_on old new output report counts
causes_of End k old new counts = λ output report. reads_end (ends.Short k 0) old new output report refl refl counts
causes_of (Short bytes) k old new counts = λ output report. reads_end (ends.Short k bytes) old new output report refl refl counts
causes_of ReadFault k old new counts = λ output report. reads_end ends.ReadFault old new output report refl refl counts
causes_of (BadMarks at) k old new counts = λ output report. reads_end (ends.BadMarks k at) old new output report refl refl counts

-- where a captured block isn't whole, the loop ends within it
block_short : (form : Form) (k : ℕ) (old new : Seen) (rows : List (List ℕ)) (marks : List (List Bool)) (answer : FetchAnswer) → Fetches form old new rows marks answer
    → IfErr (fetched answer k) (EndsCaptured form k old new)
block_short form k old new rows marks Full gives = tt
block_short form k old new rows marks End gives = ends_after form k old new 0 (gives.end refl)
block_short form k old new rows marks (Short bytes) gives = ends_after form k old new bytes (gives.short bytes refl).1
block_short form k old new rows marks ReadFault gives = ends_failed form k old new (gives.fault refl)
block_short form k old new rows marks (BadMarks at) gives = ends_broken form k old new at (gives.broken at refl)

-- and so it does within a frame after which, or before whose end, the source ended,
frame_ended : (form : Form) (k : ℕ) (old new : Seen) (count : ℕ) → FrameEndsAfter form old.bytes new.bytes count
    → EndsShort k (frame_size form) old new (ends.Short k count)
frame_ended form k old new count ended = record {
  own = ended.bytes;
  reads = ended.taken;
  fewer = omega (arith, ended.fewer, ended.size);
  ends = inl (ap (ends.Short k) (sym ended.size), ended.at_end);
}

-- or in which a read failed; no rule is broken in one
any_short : (form : Form) (k : ℕ) (old new : Seen) (answer : FetchAnswer) → (answer ≡ End → FrameEndsAfter form old.bytes new.bytes 0)
    → ((count : ℕ) → answer ≡ Short count → (0 < count) × FrameEndsAfter form old.bytes new.bytes count)
    → (answer ≡ ReadFault → ConsumesFewer old.bytes new.bytes (frame_size form)) → ((at : ℕ) → answer ≢ BadMarks at)
    → IfErr (fetched answer k) (EndsShort k (frame_size form) old new)
any_short form k old new Full end short fault none = tt
any_short form k old new End end short fault none = frame_ended form k old new 0 (end refl)
any_short form k old new (Short count) end short fault none = frame_ended form k old new count (short count refl).1
any_short form k old new ReadFault end short fault none =
    let failed = fault refl in
    record { own = failed.taken; reads = failed.loses; fewer = failed.fewer; ends = inr refl }
any_short form k old new (BadMarks at) end short fault none = absurd (none at refl)

-- THE ANSWER of a call that goes on so: what it says where the unit is whole,
module _ (answer : FetchAnswer) (k : ℕ) (result : Result (Unit {0}) LoopEnd) (is : result ≡ fetched answer k) where
  pub fetched_full : (P : Type 0) → (answer ≡ Full → P) → OnOk result P
  fetched_full P then = subst (λ r. OnOk r P) (sym is) (on_full P answer k then)

  -- which call of the source was its last,
  pub fetched_causes : (old new : Seen) → FetchCounts answer old new → HasReadCause result old new
  fetched_causes old new counts = subst (λ r. HasReadCause r old new) (sym is) (causes_of answer k old new counts)

  -- and how the loop ends within a block,
  pub fetched_ended : (form : Form) (old new : Seen) (rows : List (List ℕ)) (marks : List (List Bool)) → Fetches form old new rows marks answer
      → IfErr result (EndsCaptured form k old new)
  fetched_ended form old new rows marks gives = subst (λ r. IfErr r (EndsCaptured form k old new)) (sym is) (block_short form k old new rows marks answer gives)

  -- or within a frame
  pub frame_short : (form : Form) (old new : Seen) → (answer ≡ End → FrameEndsAfter form old.bytes new.bytes 0)
      → ((count : ℕ) → answer ≡ Short count → (0 < count) × FrameEndsAfter form old.bytes new.bytes count)
      → (answer ≡ ReadFault → ConsumesFewer old.bytes new.bytes (frame_size form)) → ((at : ℕ) → answer ≢ BadMarks at)
      → IfErr result (EndsShort k (frame_size form) old new)
  frame_short form old new end short fault none =
      subst (λ r. IfErr r (EndsShort k (frame_size form) old new)) (sym is) (any_short form k old new answer end short fault none)
