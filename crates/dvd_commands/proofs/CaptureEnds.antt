-- How a loop over captured blocks may end.
use Rattle.std.proofs.Common.{◌≡◌, ◌≢◌, ◌∙◌, ◌<◌, ℕ, List, refl, sym}
use Rattle.dvd_capture.specs.Captured.{block_size}
use Rattle.dvd_capture.specs.declared.form.Form.{Form}
use Rattle.dvd_capture.specs.declared.form.Form.TheVariants.{Plain, Marked, Listed}
use Rattle.dvd_loop.specs.Laws.{IsNever}
use Rattle.dvd_loop.specs.Machine.{IsOutcome, Outcome, Units}
use Rattle.dvd_loop.specs.declared.ends.AfterLast.TheVariants.{EndOfInput, NoControl as StopsNoControl}
use Rattle.dvd_loop.specs.declared.ends.LoopEnd.{LoopEnd}
use Rattle.dvd_loop.specs.declared.ends.LoopEnd.TheVariants.{BadHeader, BadMarks, Damaged, Done, Long, NoControl, ReadFault, ReportFault, Short, ShortHeader, WriteFault}
use Rattle.dvd_loop.specs.declared.ends.UnitKind.TheVariants.{Bad}
use Rattle.dvd_loop.proofs.PlainEnds.{damaged_at_most, marks_below, never_bad_header, never_bad_marks, never_damaged, never_long, never_no_control, never_short_header, short_below}
use Rattle.dvd_loop.proofs.Sizes.{sized_never_broken}
use Rattle.dvd_commands.specs.Captured.{IsCaptureEnd, IsSoughtEnd, captured_part}

-- blocks of one size break no rule, so a loop that ends in marks is over listed ones
only_listed : (form : Form) (units : Units) → ((k : ℕ) (own : List ℕ) → units.begins k own ≡ captured_part form own)
    → (bytes : List ℕ) (outcome : Outcome) → IsOutcome units bytes outcome → (k at : ℕ) → outcome.end ≡ BadMarks k at → form ≡ Listed
only_listed Plain units begins bytes outcome runs k at is =
    absurd (never_bad_marks units bytes outcome runs (λ j place own broken. sized_never_broken (block_size Plain) place own (sym (begins j own) ∙ broken)) k at is)
only_listed Marked units begins bytes outcome runs k at is =
    absurd (never_bad_marks units bytes outcome runs (λ j place own broken. sized_never_broken (block_size Marked) place own (sym (begins j own) ∙ broken)) k at is)
only_listed Listed units begins bytes outcome runs k at is = refl

-- Units that are captured blocks of this form.
module _ (form : Form) (units : Units) (begins : (k : ℕ) (own : List ℕ) → units.begins k own ≡ captured_part form own) (bytes : List ℕ) (outcome : Outcome) (runs : IsOutcome units bytes outcome) where
  -- marks that break a rule are those of a listed block among them
  listed_below : (k at : ℕ) → outcome.end ≡ BadMarks k at → (form ≡ Listed) × (k < units.count)
  listed_below k at is = (only_listed form units begins bytes outcome runs k at is, marks_below units bytes outcome runs k at is)

  -- how a loop over them may end, whatever is done for them
  pub capture_end : units.after_last ≡ EndOfInput → (end : LoopEnd) → outcome.end ≡ end → IsCaptureEnd form units.count end
  capture_end asks Done is = tt
  capture_end asks ReadFault is = tt
  capture_end asks WriteFault is = tt
  capture_end asks ReportFault is = tt
  capture_end asks (Short k held) is = short_below units bytes outcome runs k held is
  capture_end asks Long is = tt
  capture_end asks (Damaged bad) is = damaged_at_most units bytes outcome runs bad is
  capture_end asks NoControl is =
      absurd (never_no_control units bytes outcome runs (λ is_there. let no : EndOfInput ≡ StopsNoControl = sym asks ∙ is_there in cc) is)
  capture_end asks (BadMarks k at) is = listed_below k at is
  capture_end asks (ShortHeader held) is = absurd (never_short_header units bytes outcome runs held is)
  capture_end asks (BadHeader at) is = absurd (never_bad_header units bytes outcome runs at is)

  -- and how one that looks for a first block may
  pub sought_end : units.after_last ≡ StopsNoControl → IsNever units Bad → (end : LoopEnd) → outcome.end ≡ end → end ≢ ReportFault → IsSoughtEnd form units.count end
  sought_end is_there never Done is known = tt
  sought_end is_there never ReadFault is known = tt
  sought_end is_there never WriteFault is known = tt
  sought_end is_there never ReportFault is known = absurd (known refl)
  sought_end is_there never (Short k held) is known = short_below units bytes outcome runs k held is
  sought_end is_there never Long is known =
      absurd (never_long units bytes outcome runs (λ asks. let no : StopsNoControl ≡ EndOfInput = sym is_there ∙ asks in cc) is)
  sought_end is_there never (Damaged bad) is known = absurd (never_damaged units bytes outcome runs never bad is)
  sought_end is_there never NoControl is known = tt
  sought_end is_there never (BadMarks k at) is known = listed_below k at is
  sought_end is_there never (ShortHeader held) is known = absurd (never_short_header units bytes outcome runs held is)
  sought_end is_there never (BadHeader at) is known = absurd (never_bad_header units bytes outcome runs at is)
