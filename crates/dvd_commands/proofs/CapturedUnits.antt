-- What a captured block came to, by what was read of it and by what was done for it.
use Rattle.std.proofs.Common.{◌≡◌, ◌<◌, ◌∙◌, inl, inr, ℕ, Bool, List, [], ◌∷◌, ◌++◌, length, Option, Some, None, Result, Err, refl, ap, sym, subst, arith}
use Rattle.dvd_capture.specs.Captured.{BreaksAt, Captures, EndsAfter, FailsWithin, BreaksNoRule, unit_size}
use Rattle.dvd_capture.specs.Listed.{IsBrokenAt, listed_size}
use Rattle.dvd_capture.specs.declared.form.Form.{Form}
use Rattle.dvd_capture.specs.declared.form.Form.TheVariants.{Plain, Marked, Listed}
use Rattle.dvd_loop.specs.Machine.{EndsWithin, Units}
use Rattle.dvd_loop.specs.Machine.Prefix.{Whole, Broken}
use Rattle.dvd_loop.specs.Streams.{HaveCauses, HaveGoneOn, streams}
use Rattle.dvd_loop.specs.UnitCommand.{AreDone, IsProcessed}
use Rattle.dvd_loop.specs.declared.ends.LoopEnd.{LoopEnd}
use Rattle.dvd_loop.specs.declared.ends.LoopEnd.TheVariants.{BadMarks, ReadFault, Short}
use Rattle.dvd_loop.specs.declared.ends.UnitKind.{UnitKind}
use Rattle.dvd_loop.proofs.Sizes.{sized_fewer}
use Rattle.dvd_loop.proofs.StreamLemmas.{left_of, none_left}
use Rattle.dvd_loop.proofs.UnitLemmas.{done_unit, within_unit}
use Rattle.dvd_ports.specs.Seen.{Seen}
use Rattle.dvd_ports.proofs.KnownLemmas.{Appends-none}
use Rattle.dvd_commands.specs.Captured.{broken_at, captured_part, listed_part}
use Rattle.dvd_commands.specs.Inner.Performing.{EndsCaptured}
use Rattle.dvd_commands.proofs.CapturedParts.{listed_broken, size_cut, size_whole}

-- HOW BYTES BEGIN. As many bytes as their unit has, which break no rule, are that unit,
pub captured_whole : (form : Form) (bytes : List ℕ) → length bytes ≡ unit_size form bytes → BreaksNoRule form bytes → captured_part form bytes ≡ Whole (length bytes)
captured_whole form bytes size valid = size_whole form bytes (omega (arith, size)) valid ∙ ap Whole (sym size)

-- those that break a rule do so at their first field that does,
pub captured_broken : (form : Form) (bytes : List ℕ) (at : ℕ) → form ≡ Listed → IsBrokenAt bytes at → captured_part form bytes ≡ Broken at
captured_broken form bytes at listed broken = ap (λ f. captured_part f bytes) listed ∙ listed_broken bytes at broken

-- and a read may fail within fewer, whether they break a rule or not
listed_failed : (o : Option ℕ) (bytes left : List ℕ) (k : ℕ) → length bytes < listed_size bytes → EndsWithin (listed_part o bytes) k (length bytes) left ReadFault
listed_failed (Some at) bytes left k fewer = inr refl
listed_failed None bytes left k fewer = subst (λ part. EndsWithin part k (length bytes) left ReadFault) (sym (sized_fewer (listed_size bytes) bytes fewer)) (inr refl)

-- so in each form
pub captured_failed : (form : Form) (bytes left : List ℕ) (k : ℕ) → length bytes < unit_size form bytes
    → EndsWithin (captured_part form bytes) k (length bytes) left ReadFault
captured_failed Plain bytes left k fewer = subst (λ part. EndsWithin part k (length bytes) left ReadFault) (sym (sized_fewer 37_856 bytes fewer)) (inr refl)
captured_failed Marked bytes left k fewer = subst (λ part. EndsWithin part k (length bytes) left ReadFault) (sym (sized_fewer 42_640 bytes fewer)) (inr refl)
captured_failed Listed bytes left k fewer = listed_failed (broken_at bytes) bytes left k fewer

-- HOW A LOOP ENDS within block k, by what a source gave of it.
module _ (form : Form) (k : ℕ) (old new : Seen) where
  -- the source ended after some of the block's bytes, or before them: the loop ends short of block k
  pub ends_after : (count : ℕ) → EndsAfter form old.bytes new.bytes count → EndsCaptured form k old new (Short k count)
  ends_after count ends = record {
    own = ends.bytes;
    left = [];
    reads = ends.taken;
    known = none_left new.bytes ends.at_end;
    ends = subst (λ part. EndsWithin part k (length ends.bytes) [] (Short k count))
        (sym (size_cut form ends.bytes (subst (λ n. n < unit_size form ends.bytes) (sym ends.size) ends.fewer) ends.valid))
        (inl (ap (Short k) (sym ends.size), refl));
  }

  -- a read failed within the block: the loop ends in a fault of a read
  pub ends_failed : FailsWithin form old.bytes new.bytes → EndsCaptured form k old new ReadFault
  ends_failed failed = record {
    own = failed.bytes;
    left = (left_of new.bytes).0;
    reads = failed.taken;
    known = (left_of new.bytes).1;
    ends = captured_failed form failed.bytes (left_of new.bytes).0 k failed.fewer;
  }

  -- a field of the block's marks breaks a rule: the loop ends in bad marks at this field
  pub ends_broken : (at : ℕ) → BreaksAt form old.bytes new.bytes at → EndsCaptured form k old new (BadMarks k at)
  ends_broken at breaks = record {
    own = breaks.bytes;
    left = (left_of new.bytes).0;
    reads = breaks.taken;
    known = (left_of new.bytes).1;
    ends = subst (λ part. EndsWithin part k (length breaks.bytes) (left_of new.bytes).0 (BadMarks k at))
        (sym (captured_broken form breaks.bytes at breaks.listed breaks.broken)) (inl refl);
  }

-- Units that are captured blocks: what each came to, by what was read and by what was done.
module _ (units : Units) (form : Form) (begins : (k : ℕ) (own : List ℕ) → units.begins k own ≡ captured_part form own) (k : ℕ)
    (before : List (List ℕ)) (number : length before ≡ k) (ready : List (List ℕ) → Type 0) (source new_source output report : Seen) where
  -- a block that isn't read whole ends the loop, as its source did
  pub captured_short : (answer : Result UnitKind LoopEnd) (end : LoopEnd) → answer ≡ Err end → EndsCaptured form k source new_source end
      → HaveCauses end end (streams source output report) (streams new_source output report)
      → IsProcessed units before ready (streams source output report) (streams new_source output report) answer
  captured_short answer end is short causes =
      subst (IsProcessed units before ready (streams source output report) (streams new_source output report)) (sym is)
      (within_unit units before ready source new_source output report end short.own short.left short.reads short.known
      (subst (λ part. EndsWithin part (length before) (length short.own) short.left end) (sym (begins (length before) short.own))
      (subst (λ j. EndsWithin (captured_part form short.own) j (length short.own) short.left end) (sym number) short.ends)) causes)

  -- a block that was read whole, and what was done for it, is processed
  pub captured_done : (rows : List (List ℕ)) (marks : List (List Bool)) → (fetched : Captures form source.bytes new_source.bytes rows marks)
      → HaveGoneOn (streams source output report) (streams new_source output report)
      → (new_output new_report : Seen) (answer : Result UnitKind LoopEnd)
      → AreDone (units.does k before fetched.bytes) (streams new_source output report) (streams new_source new_output new_report) answer
      → ready (before ++ fetched.bytes ∷ [])
      → IsProcessed units before ready (streams source output report) (streams new_source new_output new_report) answer
  captured_done rows marks fetched causes new_output new_report answer done next =
      done_unit units before ready (streams source output report) (streams new_source output report) (streams new_source new_output new_report) fetched.bytes done.steps done.kind
      (record {
        whole = begins (length before) fetched.bytes ∙ captured_whole form fetched.bytes fetched.size fetched.valid;
        does = subst (λ j. units.does j before fetched.bytes done.steps done.kind) (sym number) done.may;
      })
      (record { reads = fetched.taken; writes = Appends-none output.bytes; reports = Appends-none report.bytes })
      causes next answer done.done done.is done.causes
