-- A run of `mark` by its loop and its closing line.
use Rattle.std.proofs.Common.{◌≡◌, ◌≢◌, ◌⊎◌, ◌-◌, ◌*◌, ◌^◌, ◌<◌, inl, inr, List, [], ◌∷◌, ◌++◌, length, refl, ap, sym, subst, ◌∙◌, append-nil}
use Rattle.dvd_ports.specs.Causes.{HasGoneOn}
use Rattle.dvd_ports.specs.Seen.{Seen}
use Rattle.dvd_loop.specs.Laws.{IsFaultless}
use Rattle.dvd_loop.specs.Machine.{Closes, Performs, IsClosed, IsOutcome, Outcome, ended, stepping}
use Rattle.dvd_loop.specs.Machine.Step.{Report}
use Rattle.dvd_loop.specs.Streams.{HaveReached, Counts, HasEnded, HaveMoved, AreLeft, Streams, is_report_fault, streams}
use Rattle.dvd_loop.specs.declared.ends.LoopEnd.{LoopEnd}
use Rattle.dvd_loop.specs.declared.ends.LoopEnd.TheVariants.{ReportFault}
use Rattle.dvd_loop.proofs.ClosedLemmas.{causes_closed, closed, closes_takes}
use Rattle.dvd_loop.proofs.StreamLemmas.{comes_then, counts_after}
use Rattle.cap_map.specs.declared.span.Span.{Span}
use Rattle.cap_mark.specs.Capture.{marked_capture}
use Rattle.cap_mark.specs.Frames.{mark_units}
use Rattle.cap_mark.proofs.CaptureLemmas.{marks_whole}
use Rattle.cap_top.specs.Mark.{HasMarked, MarksAll, end_of_bytes}
use Rattle.cap_top.specs.Mark.Lines.{closing_line}
use Rattle.cap_top.specs.Mark.Statuses.{status_of}
use Rattle.cap_top.specs.declared.status.Status.{Status}

-- an end is that of a failed line, or it isn't and the report hasn't failed
report_or_not : (end : LoopEnd) → (end ≡ ReportFault) ⊎ ((end ≢ ReportFault) × ((old new : Seen) → Counts (is_report_fault end) old new → HasGoneOn old new))
report_or_not ReportFault = inl refl
report_or_not end = inr (λ is. cc, λ old new on. on)

-- an end without a fault is no failed line, and it is that of the loop
same_end : (end within : LoopEnd) → IsFaultless end → (end ≢ ReportFault → end ≡ within) → end ≡ within
same_end end within sound same = same (λ is. subst IsFaultless is sound)

-- a closing line without a fault is written whole
line_written : (within : LoopEnd) (line : Outcome) → IsFaultless within → Closes closing_line within line → IsFaultless line.end
    → (line.taken ≡ []) × (line.out ≡ []) × (line.lines ≡ closing_line within)
line_written within line sound closes whole = go within sound closes
  where
    reported : (w : LoopEnd) → Performs (Report (closing_line w) ∷ []) (λ after. after ≡ ended w) line → (line.taken ≡ []) × (line.out ≡ []) × (line.lines ≡ closing_line w)
    reported w does = elim does [
      | inl (prefix, left, parts, some, fails) ↦ absurd (subst IsFaultless (ap (λ (o : Outcome). o.end) fails) whole)
      | inr (after, is, stepped) ↦
          let same : line ≡ stepping (Report (closing_line w)) (ended w) = stepped ∙ ap (stepping (Report (closing_line w))) is in
          (ap (λ (o : Outcome). o.taken) same, ap (λ (o : Outcome). o.out) same, ap (λ (o : Outcome). o.lines) same ∙ append-nil (closing_line w))
    ]

    go : (w : LoopEnd) → IsFaultless w → Closes closing_line w line → (line.taken ≡ []) × (line.out ≡ []) × (line.lines ≡ closing_line w)
    go ReportFault sound does = absurd sound
    go w sound does = reported w does

-- so all of a capture is marked where nothing failed
all_marked : (spans : List Span) (old new : Streams) (within end : LoopEnd) → HaveReached (λ bytes. IsClosed closing_line (IsOutcome (mark_units spans) bytes) within) old new end
    → (end ≢ ReportFault → end ≡ within) → MarksAll spans old new end
all_marked spans old new within end comes same bytes reported sound few =
    let is : end ≡ within = same_end end within sound same in
    let bytes_are : bytes ≡ comes.bytes = subst (λ o. AreLeft o comes.bytes) reported comes.known in
    let closed = comes.holds in
    let sound_within : IsFaultless within = subst IsFaultless is sound in
    let whole = marks_whole spans comes.bytes closed.loop (subst (λ b. length b < 2366 * (2 ^ 32 - 1)) bytes_are few) closed.runs (subst IsFaultless (sym closed.ends) sound_within) in
    let line_end : closed.line.end ≡ end = sym (ap (λ (o : Outcome). o.end) closed.all) ∙ comes.ends in
    let line = line_written within closed.line sound_within closed.closes (subst IsFaultless (sym line_end) sound) in
    let within_is : within ≡ end_of_bytes comes.bytes = sym closed.ends ∙ whole.ends in
    let taken : comes.outcome.taken ≡ comes.bytes = ap (λ (o : Outcome). o.taken) closed.all ∙ ap (λ l. closed.loop.taken ++ l) line.0 ∙ append-nil closed.loop.taken ∙ whole.reads in
    let out : comes.outcome.out ≡ marked_capture spans comes.bytes = ap (λ (o : Outcome). o.out) closed.all ∙ ap (λ l. closed.loop.out ++ l) line.1 ∙ append-nil closed.loop.out ∙ whole.writes in
    let lines : comes.outcome.lines ≡ closing_line (end_of_bytes comes.bytes) = ap (λ (o : Outcome). o.lines) closed.all ∙ ap (λ l. l ++ closed.line.lines) whole.reports ∙ line.2 ∙ ap closing_line within_is in
    let moved : HaveMoved old new comes.bytes (marked_capture spans comes.bytes) (closing_line (end_of_bytes comes.bytes)) =
    subst (λ l. HaveMoved old new comes.bytes (marked_capture spans comes.bytes) l) lines
    (subst (λ l. HaveMoved old new comes.bytes l comes.outcome.lines) out
    (subst (λ l. HaveMoved old new l comes.outcome.out comes.outcome.lines) taken comes.moved)) in
    (is ∙ within_is ∙ ap end_of_bytes (sym bytes_are), subst (λ b. HaveMoved old new b (marked_capture spans b) (closing_line (end_of_bytes b))) (sym bytes_are) moved)

module _ (spans : List Span) (old : Streams) (source output mid_report new_report : Seen) (within end : LoopEnd)
    (looped : HasEnded (IsOutcome (mark_units spans)) old (streams source output mid_report) within)
    (line : HaveReached (λ bytes. Closes closing_line within) (streams source output mid_report) (streams source output new_report) end)
    (none : within ≡ ReportFault → new_report ≡ mid_report) (cause : within ≢ ReportFault → Counts (is_report_fault end) mid_report new_report) where
  -- a loop that the report failed in has no closing line, and its end is that of the run
  end_is : within ≡ ReportFault → end ≡ ReportFault
  end_is is =
      let fails : line.outcome ≡ _ = subst (λ w. Closes closing_line w line.outcome) is line.holds in
      sym line.ends ∙ ap (λ (o : Outcome). o.end) fails

  -- the report failed exactly where the run ended in its fault
  report_counts : Counts (is_report_fault end) old.report new_report
  report_counts = elim (report_or_not within) [
    | inl is ↦ subst (λ e. Counts (is_report_fault e) old.report new_report) (sym (end_is is))
        (subst (Counts (is_report_fault ReportFault) old.report) (sym (none is))
        (subst (λ w. Counts (is_report_fault w) old.report mid_report) is looped.causes.report))
    | inr (not, on) ↦ counts_after (is_report_fault end) old.report mid_report new_report (on old.report mid_report looped.causes.report) (cause not)
  ]

  -- so the loop and its closing line are a run, with the status of its end
  pub has_marked : (end ≢ ReportFault → end ≡ within) → (result : Status) → result ≡ status_of end
      → HasMarked spans old (streams source output new_report) result
  has_marked same result is_status =
      let comes = comes_then (IsOutcome (mark_units spans)) (Closes closing_line within) (λ bytes. IsClosed closing_line (IsOutcome (mark_units spans) bytes) within)
      old (streams source output mid_report) (streams source output new_report) within end
      (λ bytes loop line loops ends closes none. closed closing_line (IsOutcome (mark_units spans) bytes) within loop line loops ends closes)
      (closes_takes closing_line within) looped.comes line in record {
        within = within;
        end = end;
        comes = comes;
        same_end = same;
        causes = causes_closed within end old (streams source output mid_report) (streams source output new_report) looped.causes refl refl report_counts;
        is_status = is_status;
        all = all_marked spans old (streams source output new_report) within end comes same;
      }
