-- What comes after the last unit, as a loop reaches it, and the closing line after the loop.
use Rattle.std.proofs.Common.{◌≡◌, ◌≢◌, inl, inr, ℕ, ◌<◌, List, [], ◌∷◌, ◌++◌, length, refl, ap, sym, subst, arith}
use Rattle.dvd_ports.specs.Bytes.{Appends, Consumes, IsAtEnd}
use Rattle.dvd_ports.specs.Causes.{HasGoneOn}
use Rattle.dvd_ports.specs.Seen.{Seen}
use Rattle.dvd_ports.specs.Whole.{AppendsPrefix}
use Rattle.dvd_ports.proofs.KnownLemmas.{Appends-none}
use Rattle.dvd_loop.specs.Machine.{Closes, Performs, EndsAfterLast, Outcome, end_by, ended, stepping, taking}
use Rattle.dvd_loop.specs.Machine.Step.{Report}
use Rattle.dvd_loop.specs.Streams.{HaveReached, Counts, AreKnown, Streams, is_report_fault, streams}
use Rattle.dvd_loop.specs.declared.ends.AfterLast.{AfterLast}
use Rattle.dvd_loop.specs.declared.ends.AfterLast.TheVariants.{EndOfInput}
use Rattle.dvd_loop.specs.declared.ends.LoopEnd.{LoopEnd}
use Rattle.dvd_loop.specs.declared.ends.LoopEnd.TheVariants.{Long, ReadFault, ReportFault}
use Rattle.dvd_loop.proofs.StreamLemmas.{comes_of_none, left_of, none_left, stays, told_before}
use Rattle.dvd_loop.proofs.UnitLemmas.{step_told}

-- a list of length 0 is empty
pub empty : (xs : List ℕ) → length xs ≡ 0 → xs ≡ []
empty [] is = refl
empty (x ∷ xs) is = absurd (omega arith)

-- nothing is asked for
pub not_asked : (after_last : AfterLast) (bad : ℕ) (old : Streams) (end : LoopEnd) → ((left : List ℕ) → EndsAfterLast after_last bad left (ended end))
    → HaveReached (EndsAfterLast after_last bad) old old end
not_asked after_last bad old end ends = record {
  bytes = (left_of old.source.bytes).0;
  known = (left_of old.source.bytes).1;
  outcome = ended end;
  holds = ends (left_of old.source.bytes).0;
  ends = refl;
  moved = stays old;
}

module _ (bad : ℕ) (source new_source output report : Seen) (own : List ℕ) (reads : Consumes source.bytes new_source.bytes own) where
  -- the input has ended
  pub asked_end : (end : LoopEnd) → length own ≡ 0 → IsAtEnd new_source.bytes → end ≡ end_by bad
      → HaveReached (EndsAfterLast EndOfInput bad) (streams source output report) (streams new_source output report) end
  asked_end end none at_end is =
      let nothing = empty own none in record {
        bytes = [];
        known = subst (λ l. AreKnown source.bytes (l ++ [])) nothing (told_before source.bytes new_source.bytes own [] reads (none_left new_source.bytes at_end));
        outcome = ended end;
        holds = inl (ap ended is);
        ends = refl;
        moved = record { reads = subst (Consumes source.bytes new_source.bytes) nothing reads; writes = Appends-none output.bytes; reports = Appends-none report.bytes };
      }

  -- a list of length 1 is one number
  one : (xs : List ℕ) → length xs ≡ 1 → (x : ℕ) × (xs ≡ x ∷ [])
  one [] is = absurd (omega arith)
  one (x ∷ []) is = (x, refl)
  one (x ∷ y ∷ xs) is = absurd (omega arith)

  -- one byte more came
  pub asked_long : length own ≡ 1 → HaveReached (EndsAfterLast EndOfInput bad) (streams source output report) (streams new_source output report) Long
  asked_long is =
      let byte = one own is in
      let left = left_of new_source.bytes in record {
        bytes = byte.0 ∷ left.0;
        known = subst (λ l. AreKnown source.bytes (l ++ left.0)) byte.1 (told_before source.bytes new_source.bytes own left.0 reads left.1);
        outcome = taking (byte.0 ∷ []) (ended Long);
        holds = inl refl;
        ends = refl;
        moved = record { reads = subst (Consumes source.bytes new_source.bytes) byte.1 reads; writes = Appends-none output.bytes; reports = Appends-none report.bytes };
      }

  -- a failed read of one byte more may end any input, with bytes left or without
  by_fault : (left : List ℕ) → EndsAfterLast EndOfInput bad left (ended ReadFault)
  by_fault [] = inr refl
  by_fault (byte ∷ left) = inr refl

  -- the read failed
  pub asked_fault : length own < 1 → HaveReached (EndsAfterLast EndOfInput bad) (streams source output report) (streams new_source output report) ReadFault
  asked_fault few =
      let nothing = empty own (omega arith) in
      let left = left_of new_source.bytes in record {
        bytes = left.0;
        known = subst (λ l. AreKnown source.bytes (l ++ left.0)) nothing (told_before source.bytes new_source.bytes own left.0 reads left.1);
        outcome = ended ReadFault;
        holds = by_fault left.0;
        ends = refl;
        moved = record { reads = subst (Consumes source.bytes new_source.bytes) nothing reads; writes = Appends-none output.bytes; reports = Appends-none report.bytes };
      }

-- the closing line of an end that isn't a fault of the report
closes_as : (closing : LoopEnd → List ℕ) (end : LoopEnd) (outcome : Outcome) → end ≢ ReportFault
    → Performs (Report (closing end) ∷ []) (λ after. after ≡ ended end) outcome → Closes closing end outcome
closes_as closing ReportFault outcome not does = absurd (not refl)
closes_as closing end outcome not does = does

-- a report that didn't fail is right for an end that isn't its fault
pub not_report : (end : LoopEnd) → end ≢ ReportFault → (old new : Seen) → HasGoneOn old new → Counts (is_report_fault end) old new
not_report ReportFault not old new same = absurd (not refl)
not_report end not old new same = same

-- after a fault of the report no closing line is tried
pub closed_none : (closing : LoopEnd → List ℕ) (old : Streams) → HaveReached (λ bytes. Closes closing ReportFault) old old ReportFault
closed_none closing old = comes_of_none (Closes closing ReportFault) old old (ended ReportFault) refl (stays old)

module _ (closing : LoopEnd → List ℕ) (end : LoopEnd) (not : end ≢ ReportFault) (source output report new_report : Seen) where
  -- the closing line was reported: the loop ends as it did before it
  pub closed_line : Appends report.bytes new_report.bytes (closing end)
      → HaveReached (λ bytes. Closes closing end) (streams source output report) (streams source output new_report) end
  closed_line reports =
      comes_of_none (Closes closing end) (streams source output report) (streams source output new_report) (stepping (Report (closing end)) (ended end))
      (closes_as closing end _ not (inr (ended end, refl, refl))) (step_told source output report new_report (closing end) reports)

  -- the report failed within the closing line: the loop ends in a fault of the report
  pub closed_fault : AppendsPrefix report.bytes new_report.bytes (closing end)
      → HaveReached (λ bytes. Closes closing end) (streams source output report) (streams source output new_report) ReportFault
  closed_fault begun =
      comes_of_none (Closes closing end) (streams source output report) (streams source output new_report) (stepping (Report begun.taken) (ended ReportFault))
      (closes_as closing end _ not (inl (begun.taken, begun.rest, sym begun.whole, begun.more, refl))) (step_told source output report new_report begun.taken begun.grows)
