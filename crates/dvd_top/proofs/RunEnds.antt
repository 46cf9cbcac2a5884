-- What follows for a run: what a failed read leaves, how the closing line is reported, and which calls failed.
use Rattle.std.proofs.Common.{◌≡◌, ◌≢◌, ◌⊎◌, inl, inr, ℕ, List, [], ◌∷◌, ◌++◌, refl, ap, sym, subst, ◌∙◌, append-nil}
use Rattle.dvd_ports.specs.Causes.{HasGoneOn, HasMetEnd}
use Rattle.dvd_ports.specs.Seen.{Seen}
use Rattle.dvd_ports.proofs.StopLemmas.{rose}
use Rattle.dvd_capture.specs.declared.form.Form.{Form}
use Rattle.dvd_capture.specs.declared.form.Form.TheVariants.{Plain, Marked, Listed}
use Rattle.dvd_loop.specs.Laws.{IsFaultless}
use Rattle.dvd_loop.specs.Machine.{Closes, Performs, Outcome, ended}
use Rattle.dvd_loop.specs.Machine.Step.{Report}
use Rattle.dvd_loop.specs.Streams.{Counts, HaveCauses, SourceCounts, Streams, is_report_fault}
use Rattle.dvd_loop.specs.declared.ends.LoopEnd.{LoopEnd}
use Rattle.dvd_loop.specs.declared.ends.LoopEnd.TheVariants.{ReadFault, ReportFault, WriteFault}
use Rattle.dvd_loop.specs.declared.ends.LoopEnd.TheVariants as ends
use Rattle.dvd_loop.proofs.Faults.{ends_there}
use Rattle.dvd_commands.specs.Commands.{GoesOver, meaning}
use Rattle.dvd_top.specs.Headline.{HaveFailed, IsLoop}
use Rattle.dvd_commands.specs.Opening.{Opens}
use Rattle.dvd_top.specs.Promises.{NoneFailed}
use Rattle.dvd_top.specs.Statuses.{status_of}
use Rattle.dvd_words.specs.declared.settings.Settings.{Settings}
use Rattle.dvd_top.specs.declared.status.Status.{Status}
use Rattle.dvd_top.specs.declared.status.Status.TheVariants as status
use Rattle.dvd_top.proofs.MasteredStream.{outcome_is}
use Rattle.dvd_top.proofs.OpenedRuns.{IsAsEnded, opens_there}

-- a closing line after which the end isn't a fault of the report was reported whole
line_is : (closing : LoopEnd → List ℕ) (end : LoopEnd) (line : Outcome) → Performs (Report (closing end) ∷ []) (λ after. after ≡ ended end) line
    → line.end ≢ ReportFault
    → line ≡ record { taken = []; out = []; lines = closing end; end = end }
line_is closing end line does sound = elim does [
  | inl (prefix, left, whole, some, is) ↦ absurd (sound (ap (λ (o : Outcome). o.end) is))
  | inr (after, is, known) ↦
      known ∙ ap (λ (o : Outcome). record { taken = o.taken; out = o.out; lines = closing end ++ o.lines; end = o.end }) is
      ∙ ap (λ l. record { taken = []; out = []; lines = l; end = end }) (append-nil (closing end))
]

-- so it is after any loop
pub closes_is : (closing : LoopEnd → List ℕ) (within : LoopEnd) (line : Outcome) → Closes closing within line → line.end ≢ ReportFault
    → line ≡ record { taken = []; out = []; lines = closing within; end = within }
closes_is closing ReportFault line is sound = absurd (sound (ap (λ (o : Outcome). o.end) is))
closes_is closing end line does sound = line_is closing end line does sound

-- a loop that a failed read ended: over the bytes that it took no fault would have ended it
goes_there : (settings : Settings) (bytes : List ℕ) (a : Outcome) → GoesOver settings bytes a → a.end ≡ ReadFault → IsAsEnded GoesOver settings a
goes_there settings bytes a goes failed =
    let (subject, has, runs) = goes in
    let (b, so, none, taken, out, lines) = ends_there ((meaning settings.command).units settings subject) bytes a runs failed in
    (b, (subject, has, so), none, taken, out, lines)

-- so is one over a capture with a header: over the bytes that it took it ends by no fault, and does all else alike
pub ended_there : (settings : Settings) (bytes : List ℕ) (loop : Outcome) → IsLoop settings bytes loop → loop.end ≡ ReadFault
    → (end : LoopEnd) × IsFaultless end × IsLoop settings loop.taken (record loop { end = end })
ended_there settings bytes loop runs failed =
    let (b, so, none, taken, out, lines) = opens_there GoesOver goes_there settings bytes loop failed settings.form runs in
    (b.end, none, subst (IsLoop settings loop.taken) (outcome_is b loop.taken loop.out loop.lines b.end taken out lines refl) so)

-- where no listed capture is read nothing comes before the input
pub in_words : (form : Form) (settings : Settings) (bytes : List ℕ) (loop : Outcome) → form ≢ Listed → Opens form GoesOver settings bytes loop
    → GoesOver settings bytes loop
in_words Plain settings bytes loop not goes = goes
in_words Marked settings bytes loop not goes = goes
in_words Listed settings bytes loop not goes = absurd (not refl)

-- no end of a loop is a want of memory
pub remembered : (end : LoopEnd) → status_of end ≢ status.NoMemory
remembered ends.Done is = cc
remembered ends.ReadFault is = cc
remembered ends.WriteFault is = cc
remembered ends.ReportFault is = cc
remembered (ends.Short unit bytes) is = cc
remembered ends.Long is = cc
remembered (ends.Damaged blocks) is = cc
remembered ends.NoControl is = cc
remembered (ends.BadMarks block at) is = cc
remembered (ends.ShortHeader bytes) is = cc
remembered (ends.BadHeader at) is = cc

-- the statuses of ends that no fault made
abbrev IsSound : Status → Type 0
IsSound status.ReadFault = ⊥
IsSound status.WriteFault = ⊥
IsSound status.ReportFault = ⊥
IsSound other = Unit {0}

-- What is so of the three faults is so of every end, if it is of each that has no fault and whose status is such.
by_fault : (P : LoopEnd → Type 0) → P ReadFault → P WriteFault → P ReportFault → ((end : LoopEnd) → IsFaultless end → IsSound (status_of end) → P end)
    → (end : LoopEnd) → P end
by_fault P read write report other ReadFault = read
by_fault P read write report other WriteFault = write
by_fault P read write report other ReportFault = report
by_fault P read write report other end = other end tt tt

-- the counts of its source by an end that no fault made
source_sound : (end : LoopEnd) → IsFaultless end → (old new : Seen) → SourceCounts end old new → HasMetEnd old new ⊎ HasGoneOn old new
source_sound ends.ReadFault none old new counts = absurd none
source_sound ends.Done none old new counts = counts
source_sound (ends.Short unit bytes) none old new counts = inl counts
source_sound (ends.ShortHeader bytes) none old new counts = inl counts
source_sound (ends.Damaged blocks) none old new counts = inl counts
source_sound other none old new counts = inr counts

-- which calls failed, by the status of a run that begins
pub risen : (within end : LoopEnd) (old new : Streams) → (end ≢ ReportFault → end ≡ within) → HaveCauses within end old new
    → HaveFailed (status_of end) old new
risen within end old new same causes = risen_by end old new (λ not. subst (λ w. HaveCauses w end old new) (sym (same not)) causes) causes.report
  where
    risen_by : (end : LoopEnd) (old new : Streams) → (end ≢ ReportFault → HaveCauses end end old new)
        → Counts (is_report_fault end) old.report new.report → HaveFailed (status_of end) old new
    risen_by ReportFault old new causes report = report
    risen_by ReadFault old new causes report = let c = causes (λ is. cc) in (c.source, c.output, c.report)
    risen_by WriteFault old new causes report = let c = causes (λ is. cc) in (c.source, c.output, c.report)
    risen_by end old new causes report = let c = causes (λ is. cc) in (source_sound end tt old.source new.source c.source, c.output, c.report)

-- where no call failed, no fault ended it
pub sound_end : (end : LoopEnd) (old new : Streams) → HaveFailed (status_of end) old new → NoneFailed old new → IsFaultless end
sound_end =
    by_fault (λ end. (old new : Streams) → HaveFailed (status_of end) old new → NoneFailed old new → IsFaultless end)
    (λ old new failed none. none.source (rose old.source new.source failed.0))
    (λ old new failed none. none.output (rose old.output new.output failed.1))
    (λ old new failed none. none.report (rose old.report new.report failed))
    (λ end faultless sound old new failed none. faultless)
