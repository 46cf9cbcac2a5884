-- How a loop over units of given sizes may end.
use Rattle.std.proofs.Common.{◌≡◌, ◌≢◌, ℕ, List, refl, sym, subst, ◌∙◌, arith}
use Rattle.dvd_loop.specs.Streams.{Counts, is_report_fault, untroubled}
use Rattle.dvd_loop.specs.Laws.{IsDamageEnd, IsNever, IsPlainEnd}
use Rattle.dvd_loop.specs.Machine.{IsOutcome, Outcome, Units, sized}
use Rattle.dvd_loop.specs.declared.ends.AfterLast.TheVariants.{EndOfInput, NoControl as StopsNoControl}
use Rattle.dvd_loop.specs.declared.ends.LoopEnd.{LoopEnd}
use Rattle.dvd_loop.specs.declared.ends.LoopEnd.TheVariants.{BadHeader, BadMarks, Damaged, Done, Long, NoControl, ReadFault, ReportFault, Short, ShortHeader, WriteFault}
use Rattle.dvd_loop.specs.declared.ends.UnitKind.TheVariants.{Bad}
use Rattle.dvd_loop.proofs.PlainEnds.{damaged_at_most, never_bad_header, never_bad_marks, never_damaged, never_no_control, never_short_header, short_below}
use Rattle.dvd_loop.proofs.Sizes.{sized_never_broken}

module _ (units : Units) (size : ℕ → ℕ) (begins : (k : ℕ) (own : List ℕ) → units.begins k own ≡ sized (size k) own) (asks : units.after_last ≡ EndOfInput) (bytes : List ℕ) (outcome : Outcome) (runs : IsOutcome units bytes outcome) where
  -- units after which one byte more is asked for don't end for want of control data
  no_control : outcome.end ≢ NoControl
  no_control = never_no_control units bytes outcome runs (λ rule. let no : EndOfInput ≡ StopsNoControl = sym asks ∙ rule in cc)

  -- units of given sizes never end in bad marks, as no bytes of theirs break a rule
  no_marks : (k at : ℕ) → outcome.end ≢ BadMarks k at
  no_marks = never_bad_marks units bytes outcome runs (λ k at own broken. sized_never_broken (size k) at own (sym (begins k own) ∙ broken))

  -- where no unit is bad and the report didn't fail
  pub plain_end : IsNever units Bad → (end : LoopEnd) → outcome.end ≡ end → end ≢ ReportFault → IsPlainEnd units.count end
  plain_end never Done is known = tt
  plain_end never ReadFault is known = tt
  plain_end never WriteFault is known = tt
  plain_end never ReportFault is known = absurd (known refl)
  plain_end never (Short k held) is known = short_below units bytes outcome runs k held is
  plain_end never Long is known = tt
  plain_end never (Damaged bad) is known = absurd (never_damaged units bytes outcome runs never bad is)
  plain_end never NoControl is known = absurd (no_control is)
  plain_end never (BadMarks k at) is known = absurd (no_marks k at is)
  plain_end never (ShortHeader held) is known = absurd (never_short_header units bytes outcome runs held is)
  plain_end never (BadHeader at) is known = absurd (never_bad_header units bytes outcome runs at is)

  -- whatever the units are
  pub damage_end : (end : LoopEnd) → outcome.end ≡ end → IsDamageEnd units.count end
  damage_end Done is = tt
  damage_end ReadFault is = tt
  damage_end WriteFault is = tt
  damage_end ReportFault is = tt
  damage_end (Short k held) is = short_below units bytes outcome runs k held is
  damage_end Long is = tt
  damage_end (Damaged bad) is = damaged_at_most units bytes outcome runs bad is
  damage_end NoControl is = absurd (no_control is)
  damage_end (BadMarks k at) is = absurd (no_marks k at is)
  damage_end (ShortHeader held) is = absurd (never_short_header units bytes outcome runs held is)
  damage_end (BadHeader at) is = absurd (never_bad_header units bytes outcome runs at is)

-- the report of a stream that never stops can't fail
pub never_told : (before moved : List ℕ) (end : LoopEnd) → Counts (is_report_fault end) (untroubled before) (untroubled moved) → end ≢ ReportFault
never_told before moved end counts is =
    let failed : Counts (is_report_fault ReportFault) (untroubled before) (untroubled moved) =
    subst (λ e. Counts (is_report_fault e) (untroubled before) (untroubled moved)) is counts in
    omega (arith, failed.faults)
