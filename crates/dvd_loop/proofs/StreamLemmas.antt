-- Streams over several calls.
use Rattle.std.proofs.Common.{◌≡◌, inl, inr, ℕ, Bool, true, false, List, [], ◌++◌, Option, Some, None, refl, ap, subst, sym, ◌∙◌}
use Rattle.std.specs.Io.KnownBytes.{Consumes as LosesKnown, IsAtEnd as IsKnownEnd}
use Rattle.dvd_ports.specs.Bytes.{Bytes, Consumes, IsAtEnd}
use Rattle.dvd_ports.proofs.KnownLemmas.{Appends-none, Appends-then, Consumes-none, Consumes-then}
use Rattle.dvd_ports.proofs.StopLemmas.{ends_after, fails_after, goes_on, unmoved}
use Rattle.dvd_ports.specs.Causes.{HasGoneOn}
use Rattle.dvd_ports.specs.Seen.{Seen}
use Rattle.dvd_loop.specs.Machine.{Outcome}
use Rattle.dvd_loop.specs.Streams.{HaveReached, Counts, HasEnded, HaveCauses, HaveGoneOn, HaveMoved, AreKnown, AreLeft, SourceCounts, Streams, is_report_fault, is_write_fault, streams}
use Rattle.dvd_loop.specs.declared.ends.LoopEnd.{LoopEnd}
use Rattle.dvd_loop.specs.declared.ends.LoopEnd.TheVariants.{Damaged, Done, ReadFault, Short, ShortHeader}
use Rattle.dvd_loop.proofs.StepLemmas.{and_then, onto}

-- streams that nobody touched
pub stays : (old : Streams) → HaveMoved old old [] [] []
stays old = record { reads = Consumes-none old.source.bytes; writes = Appends-none old.output.bytes; reports = Appends-none old.report.bytes }

-- what the streams moved by first, and then again, they moved by together
pub moves_on : (a b c : Streams) (taken out lines taken2 out2 lines2 : List ℕ) → HaveMoved a b taken out lines → HaveMoved b c taken2 out2 lines2
    → HaveMoved a c (taken ++ taken2) (out ++ out2) (lines ++ lines2)
moves_on a b c taken out lines taken2 out2 lines2 p q = record {
  reads = Consumes-then _ _ _ _ _ p.reads q.reads;
  writes = Appends-then _ _ _ _ _ p.writes q.writes;
  reports = Appends-then _ _ _ _ _ p.reports q.reports;
}

-- what a source had before it gave these
pub told_before : (a b : Bytes) (taken bytes : List ℕ) → Consumes a b taken → AreKnown b bytes → AreKnown a (taken ++ bytes)
told_before a b taken bytes p t = before a.left b.left p.loses t
  where
    before : (old new : Option (List ℕ)) → LosesKnown old new taken → AreLeft new bytes → AreLeft old (taken ++ bytes)
    before None new loses known = tt
    before (Some xs) None loses known = absurd loses
    before (Some xs) (Some ys) loses known = loses ∙ ap (λ l. taken ++ l) known

-- what is left of a source, where its bytes are known
pub left_of : (a : Bytes) → (left : List ℕ) × AreKnown a left
left_of a = of a.left
  where
    of : (known : Option (List ℕ)) → (left : List ℕ) × AreLeft known left
    of None = ([], tt)
    of (Some bytes) = (bytes, refl)

-- a source at its end has nothing left
pub none_left : (a : Bytes) → IsAtEnd a → AreKnown a []
none_left a end = none a.left end
  where
    none : (left : Option (List ℕ)) → IsKnownEnd left → AreLeft left []
    none None at = tt
    none (Some bytes) at = at

-- An outcome that rests on no bytes of the source.
pub comes_of_none : (P : Outcome → Type 0) (old new : Streams) (outcome : Outcome) → P outcome → HaveMoved old new outcome.taken outcome.out outcome.lines
    → HaveReached (λ bytes. P) old new outcome.end
comes_of_none P old new outcome holds moved =
    let left = left_of old.source.bytes in record { bytes = left.0; known = left.1; outcome = outcome; holds = holds; ends = refl; moved = moved }

-- What a loop has come to, where the streams had moved before.
pub comes_after : (P Q : List ℕ → Outcome → Type 0) (old now new : Streams) (end : LoopEnd) (taken out lines : List ℕ)
    → HaveMoved old now taken out lines
    → ((left : List ℕ) (after : Outcome) → P left after → Q (taken ++ left) (onto taken out lines after)) → HaveReached P now new end → HaveReached Q old new end
comes_after P Q old now new end taken out lines moved reaches comes = record {
  bytes = taken ++ comes.bytes;
  known = told_before _ _ taken comes.bytes moved.reads comes.known;
  outcome = onto taken out lines comes.outcome;
  holds = reaches comes.bytes comes.outcome comes.holds;
  ends = comes.ends;
  moved = moves_on old now new taken out lines comes.outcome.taken comes.outcome.out comes.outcome.lines moved comes.moved;
}

-- no call of the source stopped, and then its counts are those of such an end
source_after : (end : LoopEnd) (a b c : Seen) → HasGoneOn a b → SourceCounts end b c → SourceCounts end a c
source_after ReadFault a b c first next = fails_after a b c first next
source_after (Short unit bytes) a b c first next = ends_after a b c first next
source_after (ShortHeader bytes) a b c first next = ends_after a b c first next
source_after (Damaged units) a b c first next = ends_after a b c first next
source_after Done a b c first next = elim next [
  | inl met ↦ inl (ends_after a b c first met)
  | inr on ↦ inr (goes_on a b c first on)
]
source_after other a b c first next = goes_on a b c first next

-- no call of a sink failed, and then one did, or none
pub counts_after : (fails : Bool) (a b c : Seen) → HasGoneOn a b → Counts fails b c → Counts fails a c
counts_after true a b c first next = fails_after a b c first next
counts_after false a b c first next = goes_on a b c first next

-- streams that nobody touched have gone on
pub all_unmoved : (old : Streams) → HaveGoneOn old old
all_unmoved old = record { source = unmoved old.source; output = unmoved old.output; report = unmoved old.report }

-- no stream stopped, and then none
pub go_on : (old now new : Streams) → HaveGoneOn old now → HaveGoneOn now new → HaveGoneOn old new
go_on old now new first next = record {
  source = goes_on old.source now.source new.source first.source next.source;
  output = goes_on old.output now.output new.output first.output next.output;
  report = goes_on old.report now.report new.report first.report next.report;
}

-- no stream stopped, and then their counts are these
pub causes_first : (old now new : Streams) (within end : LoopEnd) → HaveGoneOn old now → HaveCauses within end now new
    → HaveCauses within end old new
causes_first old now new within end first next = record {
  source = source_after within old.source now.source new.source first.source next.source;
  output = counts_after (is_write_fault within) old.output now.output new.output first.output next.output;
  report = counts_after (is_report_fault end) old.report now.report new.report first.report next.report;
}

-- a call that reads alone, and goes on
pub reads_on : (old new output report : Seen) → HasGoneOn old new → HaveGoneOn (streams old output report) (streams new output report)
reads_on old new output report on = record { source = on; output = unmoved output; report = unmoved report }

-- one that reads alone, and so ends the loop by no fault of a sink
pub reads_end : (end : LoopEnd) (old new output report : Seen) → is_write_fault end ≡ false → is_report_fault end ≡ false → SourceCounts end old new
    → HaveCauses end end (streams old output report) (streams new output report)
reads_end end old new output report not_write not_report counts = record {
  source = counts;
  output = subst (λ fails. Counts fails output output) (sym not_write) (unmoved output);
  report = subst (λ fails. Counts fails report report) (sym not_report) (unmoved report);
}

-- a loop is done where no stream stopped
pub done_on : (old new : Streams) → HaveGoneOn old new → HaveCauses Done Done old new
done_on old new on = record { source = inr on.source; output = on.output; report = on.report }

-- what a loop has ended with may be said otherwise
pub ended_as : (P Q : List ℕ → Outcome → Type 0) (old new : Streams) (end : LoopEnd)
    → ((bytes : List ℕ) (outcome : Outcome) → P bytes outcome → Q bytes outcome) → HasEnded P old new end → HasEnded Q old new end
ended_as P Q old new end to ended =
    let comes = ended.comes in record {
      comes = record {
        bytes = comes.bytes;
        known = comes.known;
        outcome = comes.outcome;
        holds = to comes.bytes comes.outcome comes.holds;
        ends = comes.ends;
        moved = comes.moved;
      };
      causes = ended.causes;
    }

-- A loop and then its closing line: what both have come to.
pub comes_then : (P : List ℕ → Outcome → Type 0) (Q : Outcome → Type 0) (R : List ℕ → Outcome → Type 0) (old mid new : Streams) (within end : LoopEnd)
    → ((bytes : List ℕ) (loop line : Outcome) → P bytes loop → loop.end ≡ within → Q line → line.taken ≡ [] → R bytes (and_then loop line))
    → ((line : Outcome) → Q line → line.taken ≡ []) → HaveReached P old mid within → HaveReached (λ bytes. Q) mid new end → HaveReached R old new end
comes_then P Q R old mid new within end to takes loop line =
    let none = takes line.outcome line.holds in record {
      bytes = loop.bytes;
      known = loop.known;
      outcome = and_then loop.outcome line.outcome;
      holds = to loop.bytes loop.outcome line.outcome loop.holds loop.ends line.holds none;
      ends = line.ends;
      moved = moves_on old mid new loop.outcome.taken loop.outcome.out loop.outcome.lines line.outcome.taken line.outcome.out line.outcome.lines loop.moved line.moved;
    }
