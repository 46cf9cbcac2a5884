-- What a unit came to, by what was read of it and by what was done for it.
use Rattle.std.proofs.Common.{◌≡◌, ◌<◌, inl, inr, ℕ, List, [], ◌∷◌, ◌++◌, length, IsErrAnd, Result, Ok, Err, refl, ap, sym, subst, ◌∙◌, append-nil}
use Rattle.dvd_ports.specs.Bytes.{Appends, Consumes}
use Rattle.dvd_ports.specs.Seen.{Seen}
use Rattle.dvd_ports.specs.Causes.{HasFailed, HasGoneOn}
use Rattle.dvd_ports.specs.Whole.{AppendsPrefix}
use Rattle.dvd_ports.proofs.KnownLemmas.{Appends-none, Consumes-none}
use Rattle.dvd_ports.proofs.StopLemmas.{unmoved}
use Rattle.dvd_loop.specs.Machine.{Performs, EndsWithin, IsUnit, Step, Units, ended, sized, stepping, taking}
use Rattle.dvd_loop.specs.Machine.Prefix.{Cut}
use Rattle.dvd_loop.specs.Machine.Step.{Write, Report}
use Rattle.dvd_loop.specs.Streams.{HaveReached, HaveCauses, HaveGoneOn, HaveMoved, AreKnown, Streams, streams}
use Rattle.dvd_loop.specs.UnitCommand.{AreDone, AreSteps, EndsAt, EndsShort, HaveCausesFor, IsProcessed, Nothing, reported, written}
use Rattle.dvd_loop.specs.declared.ends.LoopEnd.{LoopEnd}
use Rattle.dvd_loop.specs.declared.ends.LoopEnd.TheVariants.{ReportFault, WriteFault}
use Rattle.dvd_loop.specs.declared.ends.UnitKind.{UnitKind}
use Rattle.dvd_loop.proofs.Sizes.{sized_fewer, sized_whole}
use Rattle.dvd_loop.proofs.StepLemmas.{onto, taken_then}
use Rattle.dvd_loop.proofs.StreamLemmas.{causes_first, comes_after, comes_of_none, go_on, left_of, moves_on, none_left, told_before}

-- an answer that is this error
pub err_is : {A : Type 0} (answer : Result A LoopEnd) (end : LoopEnd) → IsErrAnd answer (λ e. e ≡ end) → answer ≡ Err end
err_is (Ok value) end is = absurd is
err_is (Err e) end is = ap (λ x. Err x) is

module _ (units : Units) (before : List (List ℕ)) where
  -- the loop ends within the unit, after these of its bytes, those being left
  pub within_unit : (ready : List (List ℕ) → Type 0) (source new_source output report : Seen) (end : LoopEnd) (own left : List ℕ)
      → Consumes source.bytes new_source.bytes own → AreKnown new_source.bytes left
      → EndsWithin (units.begins (length before) own) (length before) (length own) left end
      → HaveCauses end end (streams source output report) (streams new_source output report)
      → IsProcessed units before ready (streams source output report) (streams new_source output report) (Err end)
  within_unit ready source new_source output report end own left reads reported ends causes = record {
    comes = record {
      bytes = own ++ left;
      known = told_before source.bytes new_source.bytes own left reads reported;
      outcome = taking own (ended end);
      holds = inl (record { own = own; left = left; prefix = refl; ends = ends; takes = refl });
      ends = refl;
      moved = record { reads = subst (Consumes source.bytes new_source.bytes) (sym (append-nil own)) reads; writes = Appends-none output.bytes; reports = Appends-none report.bytes };
    };
    causes = causes;
  }

  -- so it does where fewer came than it has
  pub short_unit : (ready : List (List ℕ) → Type 0) (size : ℕ) (source new_source output report : Seen) (end : LoopEnd)
      → ((own : List ℕ) → length own < size → units.begins (length before) own ≡ Cut)
      → EndsShort (length before) size source new_source end → HaveCauses end end (streams source output report) (streams new_source output report)
      → IsProcessed units before ready (streams source output report) (streams new_source output report) (Err end)
  short_unit ready size source new_source output report end cut short causes = elim short.ends [
    | inl input ↦ within [] (none_left new_source.bytes input.1) (inl (input.0, refl))
    | inr failed ↦ within (left_of new_source.bytes).0 (left_of new_source.bytes).1 (inr failed)
  ]
    where
      within : (left : List ℕ) → AreKnown new_source.bytes left → EndsWithin Cut (length before) (length short.own) left end
          → IsProcessed units before ready (streams source output report) (streams new_source output report) (Err end)
      within left reported ends =
          within_unit ready source new_source output report end short.own left short.reads reported
          (subst (λ p. EndsWithin p (length before) (length short.own) left end) (sym (cut short.own short.fewer)) ends) causes

  -- the unit was read whole, and steps that may be taken for it were: all of them, or the loop ended within them
  pub done_unit : (ready : List (List ℕ) → Type 0) (old now new : Streams) (own : List ℕ) (steps : List Step) (kind : UnitKind)
      → IsUnit units before own steps kind → HaveMoved old now own [] [] → HaveGoneOn old now → ready (before ++ own ∷ [])
      → (answer : Result UnitKind LoopEnd) → AreSteps steps now new answer → ((value : UnitKind) → answer ≡ Ok value → value ≡ kind) → HaveCausesFor answer now new
      → IsProcessed units before ready old new answer
  done_unit ready old now new own steps kind unit moved first next (Ok value) done same causes = record {
    own = own;
    steps = steps;
    unit = subst (IsUnit units before own steps) (sym (same value refl)) unit;
    moved = subst (λ l. HaveMoved old new l (written steps) (reported steps)) (append-nil own) (moves_on old now new own [] [] [] (written steps) (reported steps) moved done);
    causes = go_on old now new first causes;
    next = next;
  }
  done_unit ready old now new own steps kind unit moved first next (Err end) done same causes = record {
    comes = comes_after (λ bytes. Performs steps Nothing) (EndsAt units before) old now new end own [] [] moved
        (λ left after does. inr (taken_then units before (λ l r t. Nothing) (own ++ left) own left steps kind _ after refl unit does refl)) done;
    causes = causes_first old now new end end first causes;
  }

module _ (source output new_output report : Seen) where
  -- one write, whole or begun
  pub step_written : (bytes : List ℕ) → Appends output.bytes new_output.bytes bytes
      → HaveMoved (streams source output report) (streams source new_output report) [] (bytes ++ []) []
  step_written bytes writes = record {
    reads = Consumes-none source.bytes;
    writes = subst (Appends output.bytes new_output.bytes) (sym (append-nil bytes)) writes;
    reports = Appends-none report.bytes;
  }

  -- the output failed within the write: a front of its bytes came, and no step after it was taken
  pub step_begun : (bytes : List ℕ) (steps : List Step) → AppendsPrefix output.bytes new_output.bytes bytes
      → HaveReached (λ input. Performs (Write bytes ∷ steps) Nothing) (streams source output report) (streams source new_output report) WriteFault
  step_begun bytes steps begun =
      comes_of_none (Performs (Write bytes ∷ steps) Nothing) (streams source output report) (streams source new_output report) (stepping (Write begun.taken) (ended WriteFault))
      (inl (begun.taken, begun.rest, sym begun.whole, begun.more, refl)) (step_written begun.taken begun.grows)

module _ (source output report new_report : Seen) where
  -- one line, whole or begun
  pub step_told : (line : List ℕ) → Appends report.bytes new_report.bytes line
      → HaveMoved (streams source output report) (streams source output new_report) [] [] (line ++ [])
  step_told line reports = record {
    reads = Consumes-none source.bytes;
    writes = Appends-none output.bytes;
    reports = subst (Appends report.bytes new_report.bytes) (sym (append-nil line)) reports;
  }

  -- the report failed within the line: a front of it came, and no step after it was taken
  pub line_begun : (line : List ℕ) (steps : List Step) → AppendsPrefix report.bytes new_report.bytes line
      → HaveReached (λ input. Performs (Report line ∷ steps) Nothing) (streams source output report) (streams source output new_report) ReportFault
  line_begun line steps begun =
      comes_of_none (Performs (Report line ∷ steps) Nothing) (streams source output report) (streams source output new_report) (stepping (Report begun.taken) (ended ReportFault))
      (inl (begun.taken, begun.rest, sym begun.whole, begun.more, refl)) (step_told begun.taken begun.grows)

-- steps after a line that was reported
pub steps_after_line : (line : List ℕ) (steps : List Step) (old now new : Streams) {A : Type 0} (answer : Result A LoopEnd)
    → HaveMoved old now [] [] (line ++ []) → AreSteps steps now new answer → AreSteps (Report line ∷ steps) old new answer
steps_after_line line steps old now new (Ok value) told_line done =
    subst (λ l. HaveMoved old new [] (written steps) (l ++ reported steps)) (append-nil line) (moves_on old now new [] [] (line ++ []) [] (written steps) (reported steps) told_line done)
steps_after_line line steps old now new (Err end) told_line done =
    comes_after (λ bytes. Performs steps Nothing) (λ bytes. Performs (Report line ∷ steps) Nothing) old now new end [] [] (line ++ []) told_line
    (λ left after does. inr (after, does, ap (λ l. onto [] [] l after) (append-nil line))) done

-- steps after bytes that were written
pub steps_after_write : (bytes : List ℕ) (steps : List Step) (old now new : Streams) {A : Type 0} (answer : Result A LoopEnd)
    → HaveMoved old now [] (bytes ++ []) [] → AreSteps steps now new answer → AreSteps (Write bytes ∷ steps) old new answer
steps_after_write bytes steps old now new (Ok value) wrote done =
    subst (λ l. HaveMoved old new [] (l ++ written steps) (reported steps)) (append-nil bytes) (moves_on old now new [] (bytes ++ []) [] [] (written steps) (reported steps) wrote done)
steps_after_write bytes steps old now new (Err end) wrote done =
    comes_after (λ input. Performs steps Nothing) (λ input. Performs (Write bytes ∷ steps) Nothing) old now new end [] (bytes ++ []) [] wrote
    (λ left after does. inr (after, does, ap (λ l. onto [] l [] after) (append-nil bytes))) done

-- one write is all that is done for a unit that is then this
module _ (May : List Step → UnitKind → Type 0) (bytes : List ℕ) (kind : UnitKind) (may : May (Write bytes ∷ []) kind) (source output new_output report : Seen) where
  -- the write was whole, so all was done for the unit
  pub write_done : Appends output.bytes new_output.bytes bytes → HasGoneOn output new_output
      → AreDone May (streams source output report) (streams source new_output report) (Ok kind)
  write_done writes steady = record {
    steps = Write bytes ∷ [];
    kind = kind;
    may = may;
    done = step_written source output new_output report bytes writes;
    is = λ value is. cc;
    causes = record { source = unmoved source; output = steady; report = unmoved report };
  }

  -- the output failed within the write, which ends the loop
  pub write_begun : (answer : Result UnitKind LoopEnd) → answer ≡ Err WriteFault → AppendsPrefix output.bytes new_output.bytes bytes → HasFailed output new_output
      → AreDone May (streams source output report) (streams source new_output report) answer
  write_begun answer is begun failed =
      subst (AreDone May (streams source output report) (streams source new_output report)) (sym is) (record {
        steps = Write bytes ∷ [];
        kind = kind;
        may = may;
        done = step_begun source output new_output report bytes [] begun;
        is = λ value ok. cc;
        causes = record { source = unmoved source; output = failed; report = unmoved report };
      })

-- Units of given sizes: what each came to, by what was read and by what was done.
module _ (units : Units) (size : ℕ → ℕ) (begins : (k : ℕ) (own : List ℕ) → units.begins k own ≡ sized (size k) own) (k : ℕ)
    (before : List (List ℕ)) (number : length before ≡ k) (ready : List (List ℕ) → Type 0) (source new_source output report : Seen) where
  -- a unit of which too few bytes came ends the loop, as its source did
  pub sized_short : (answer : Result UnitKind LoopEnd) (end : LoopEnd) → answer ≡ Err end → EndsShort k (size k) source new_source end
      → HaveCauses end end (streams source output report) (streams new_source output report)
      → IsProcessed units before ready (streams source output report) (streams new_source output report) answer
  sized_short answer end is short causes =
      subst (IsProcessed units before ready (streams source output report) (streams new_source output report)) (sym is)
      (short_unit units before ready (size k) source new_source output report end
      (λ own fewer. begins (length before) own ∙ ap (λ j. sized (size j) own) number ∙ sized_fewer (size k) own fewer)
      (subst (λ j. EndsShort j (size k) source new_source end) (sym number) short) causes)

  -- likewise by the length of the buffer that it was to fill
  pub buffer_short : (answer : Result UnitKind LoopEnd) (end : LoopEnd) → answer ≡ Err end → (n : ℕ) → n ≡ size k → EndsShort k n source new_source end
      → HaveCauses end end (streams source output report) (streams new_source output report)
      → IsProcessed units before ready (streams source output report) (streams new_source output report) answer
  buffer_short answer end is n as_many short = sized_short answer end is (subst (λ m. EndsShort k m source new_source end) as_many short)

  -- a unit of which all bytes came, and what was done for it, is processed
  pub sized_done : (own : List ℕ) → length own ≡ size k → Consumes source.bytes new_source.bytes own
      → HaveGoneOn (streams source output report) (streams new_source output report)
      → (new_output new_report : Seen) (answer : Result UnitKind LoopEnd)
      → AreDone (units.does k before own) (streams new_source output report) (streams new_source new_output new_report) answer → ready (before ++ own ∷ [])
      → IsProcessed units before ready (streams source output report) (streams new_source new_output new_report) answer
  sized_done own whole reads causes new_output new_report answer done next =
      done_unit units before ready (streams source output report) (streams new_source output report) (streams new_source new_output new_report) own done.steps done.kind
      (record {
        whole = begins (length before) own ∙ ap (λ j. sized (size j) own) number ∙ (sized_whole (size k) own).1 whole;
        does = subst (λ j. units.does j before own done.steps done.kind) (sym number) done.may;
      })
      (record { reads = reads; writes = Appends-none output.bytes; reports = Appends-none report.bytes })
      causes next answer done.done done.is done.causes
