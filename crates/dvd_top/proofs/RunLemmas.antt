-- A run by its loop and its closing line.
use Rattle.std.proofs.Common.{◌≡◌, ◌≢◌, ◌⊎◌, inl, inr, ℕ, List, ◌++◌, Option, Some, refl, ap, sym, subst, ◌∙◌}
use Rattle.dvd_capture.specs.declared.form.Form.TheVariants.{Listed}
use Rattle.dvd_ports.specs.Causes.{HasGoneOn}
use Rattle.dvd_ports.specs.Seen.{Seen}
use Rattle.dvd_ports.proofs.KnownLemmas.{Appends-then}
use Rattle.dvd_loop.specs.Laws.{IsFaultless}
use Rattle.dvd_loop.specs.Machine.{Closes, Outcome}
use Rattle.dvd_loop.specs.Streams.{AreLeft, HaveReached, Counts, HaveCauses, HaveMoved, Streams, is_report_fault, streams}
use Rattle.dvd_loop.specs.declared.ends.LoopEnd.{LoopEnd}
use Rattle.dvd_loop.specs.declared.ends.LoopEnd.TheVariants.{ReportFault}
use Rattle.dvd_loop.proofs.ClosedLemmas.{causes_closed}
use Rattle.dvd_loop.proofs.StreamLemmas.{counts_after}
use Rattle.dvd_top.specs.Headline.{HaveFailed, IsLoop, IsPrescribed, IsRun}
use Rattle.dvd_top.specs.Statuses.{status_of}
use Rattle.dvd_top.specs.Lines.{closing_line}
use Rattle.dvd_commands.specs.Performed.{HasLooped}
use Rattle.dvd_words.specs.declared.table.Command.TheVariants.{CdRead}
use Rattle.dvd_words.specs.declared.settings.Settings.{Settings}
use Rattle.dvd_top.specs.declared.status.Status.{Status}
use Rattle.dvd_top.proofs.BoundKept.{kept}
use Rattle.dvd_commands.proofs.ForRuns.{kept_sectors}
use Rattle.dvd_top.proofs.BoundKept.{kept_good}
use Rattle.dvd_top.proofs.InputEnds.{all_came}
use Rattle.dvd_top.proofs.OverTaken.{over_taken}
use Rattle.dvd_top.proofs.RunEnds.{ended_there, in_words, remembered, risen, sound_end}

-- there is one reading of words at most
pub same_settings : (read : Option Settings) (a b : Settings) → read ≡ Some a → read ≡ Some b → a ≡ b
same_settings read a b p q = cc

-- the promises that hold of every loop over some bytes
prescribed : (settings : Settings) (bytes : List ℕ) (loop : Outcome) → (settings.command ≡ CdRead → settings.form ≢ Listed) → IsLoop settings bytes loop
    → IsPrescribed settings bytes loop
prescribed settings bytes loop plain runs = record {
  is_loop = runs;
  all = all_came settings bytes loop runs;
  bound = λ rescues. kept settings bytes loop rescues runs;
  good_frames = λ is. kept_good settings bytes loop is runs;
  sectors = λ is. kept_sectors settings bytes loop is (in_words settings.form settings bytes loop (plain is) runs);
}

-- an end is that of a failed line, or it isn't and the report hasn't failed
report_or_not : (end : LoopEnd) → (end ≡ ReportFault) ⊎ ((end ≢ ReportFault) × ((old new : Seen) → Counts (is_report_fault end) old new → HasGoneOn old new))
report_or_not ReportFault = inl refl
report_or_not end = inr (λ is. cc, λ old new on. on)

module _ (settings : Settings) (old : Streams) (source output mid_report new_report : Seen) (within end : LoopEnd) (looped : HasLooped settings old (streams source output mid_report) within)
    (line : HaveReached (λ bytes. Closes (closing_line settings.command) within) (streams source output mid_report) (streams source output new_report) end)
    (none : within ≡ ReportFault → new_report ≡ mid_report) (cause : within ≢ ReportFault
    → Counts (is_report_fault end) mid_report new_report) where
  -- a loop that the report failed in has no closing line, and its end is that of the run
  end_is : within ≡ ReportFault → end ≡ ReportFault
  end_is is =
      let fails : line.outcome ≡ _ = subst (λ w. Closes (closing_line settings.command) w line.outcome) is line.holds in
      sym line.ends ∙ ap (λ (o : Outcome). o.end) fails

  -- the report failed exactly where the run ended in its fault
  report_counts : Counts (is_report_fault end) old.report new_report
  report_counts = elim (report_or_not within) [
    | inl is ↦ subst (λ e. Counts (is_report_fault e) old.report new_report) (sym (end_is is))
        (subst (Counts (is_report_fault ReportFault) old.report) (sym (none is))
        (subst (λ w. Counts (is_report_fault w) old.report mid_report) is looped.loop.causes.report))
    | inr (not, on) ↦ counts_after (is_report_fault end) old.report mid_report new_report (on old.report mid_report looped.loop.causes.report) (cause not)
  ]

  -- the loop and its closing line have moved the streams
  moved : HaveMoved old (streams source output new_report) looped.loop.comes.outcome.taken looped.loop.comes.outcome.out (looped.loop.comes.outcome.lines ++ line.outcome.lines)
  moved = record {
    reads = looped.loop.comes.moved.reads;
    writes = looped.loop.comes.moved.writes;
    reports = Appends-then _ _ _ looped.loop.comes.outcome.lines line.outcome.lines looped.loop.comes.moved.reports line.moved.reports;
  }

  -- each fault among them is one failed call
  causes : HaveCauses within end old (streams source output new_report)
  causes = causes_closed within end old (streams source output mid_report) (streams source output new_report) looped.loop.causes refl refl report_counts

  -- so these calls have failed
  pub has_failed : (end ≢ ReportFault → end ≡ within) → HaveFailed (status_of end) old (streams source output new_report)
  has_failed same = risen within end old (streams source output new_report) same causes

  -- they are a run, with the status of its end
  pub has_run : (settings.command ≡ CdRead → settings.form ≢ Listed) → (end ≢ ReportFault → end ≡ within) → (result : Status) → result ≡ status_of end
      → IsRun settings old (streams source output new_report) result
  has_run plain same result is_status =
      let new = streams source output new_report in
      let comes = looped.loop.comes in
      let ends : end ≢ ReportFault → line.outcome.end ≡ comes.outcome.end = λ not. line.ends ∙ same not ∙ sym comes.ends in
      record {
        loop = comes.outcome;
        line = line.outcome;
        closes = subst (λ w. Closes (closing_line settings.command) w line.outcome) (sym comes.ends) line.holds;
        moved = moved;
        returned = prescribed settings comes.outcome.taken comes.outcome plain (over_taken settings comes.bytes comes.outcome comes.holds);
        known = λ bytes told.
            let same_bytes : bytes ≡ comes.bytes = subst (λ l. AreLeft l comes.bytes) told comes.known in
            prescribed settings bytes comes.outcome plain (subst (λ l. IsLoop settings l comes.outcome) (sym same_bytes) comes.holds);
        is_status = is_status ∙ ap status_of (sym line.ends);
        memory = λ none. remembered end (sym is_status ∙ none);
        causes = subst (λ w. HaveCauses w line.outcome.end old new) (sym comes.ends) (subst (λ e. HaveCauses within e old new) (sym line.ends) causes);
        complete = λ none.
            let sound = sound_end end old new (has_failed same) none in (
              subst IsFaultless (sym line.ends) sound,
              ends (λ is. subst IsFaultless is sound),
            );
        read_fault = ended_there settings comes.bytes comes.outcome comes.holds;
      }
