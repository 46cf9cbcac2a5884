-- What a report says line by line.
use Rattle.std.proofs.Common.{◌≡◌, ◌∙◌, ◌+◌, ◌<◌, ◌==◌, ℕ, false, true, nat_lt, List, [], ◌∷◌, ◌++◌, Ok, Err, Result, length, refl, ap, subst, sym, arith, append-nil}
use Rattle.std.specs.Prelude.{IfErr}
use Rattle.std.specs.Result.{IsErrAnd}
use Rattle.std.proofs.lemmas.Bool.{lt-ltb}
use Rattle.cap_map.specs.Fields.{line_length, lines_of}
use Rattle.dvd_layout.specs.declared.layout.Layout.{Layout}
use Rattle.dvd_layout.specs.declared.layout.Zones.{Zones}
use Rattle.cap_lost.specs.Report.{Losses, Sayings, after_line, line_read, lines_read}
use Rattle.cap_lost.specs.declared.fault.ReportCause.{ReportCause}
use Rattle.cap_lost.specs.declared.fault.ReportCause.TheVariants.{Line}
use Rattle.cap_lost.specs.declared.fault.ReportFault.{ReportFault}
use Rattle.cap_lost.specs.declared.fault.ReportFault.TheVariants.{Rule}
use Rattle.cap_lost.proofs.LineEnds.{line_alone, line_ended, overlong}

module _ (layout : Layout) (zones : Zones) (said : Sayings) (number : ℕ) (line : List ℕ) where
  -- what follows a line
  abbrev then_lines : List (List ℕ) → Result Sayings ReportCause → Result Losses ReportFault
  then_lines lines read = after_line number read (λ next. lines_read layout zones next (number + 1) lines)

  -- a line that ends is read
  pub read_on : (next : Sayings) (rest : List ℕ) → line_length line ≡ length line → line_read layout zones said line ≡ Ok next
      → lines_read layout zones said number (lines_of (line ++ 10 ∷ rest)) ≡ lines_read layout zones next (number + 1) (lines_of rest)
  read_on next rest within read =
      ap (lines_read layout zones said number) (line_ended line rest within) ∙ ap (then_lines (lines_of rest)) read

  -- or it breaks a rule
  pub broken_on : (cause : ReportCause) (rest : List ℕ) → line_length line ≡ length line → line_read layout zones said line ≡ Err cause
      → lines_read layout zones said number (lines_of (line ++ 10 ∷ rest)) ≡ Err (Rule number cause)
  broken_on cause rest within read =
      ap (lines_read layout zones said number) (line_ended line rest within) ∙ ap (then_lines (lines_of rest)) read

  -- the last line, which the text ends
  pub read_last : (next : Sayings) → 0 < length line → line_length line ≡ length line → line_read layout zones said line ≡ Ok next
      → lines_read layout zones said number (lines_of (line ++ [])) ≡ lines_read layout zones next (number + 1) []
  read_last next some within read =
      ap (λ l. lines_read layout zones said number (lines_of l)) (append-nil line)
      ∙ ap (lines_read layout zones said number) (line_alone line some within) ∙ ap (then_lines []) read

  pub broken_last : (cause : ReportCause) → 0 < length line → line_length line ≡ length line → line_read layout zones said line ≡ Err cause
      → lines_read layout zones said number (lines_of (line ++ [])) ≡ Err (Rule number cause)
  broken_last cause some within read =
      ap (λ l. lines_read layout zones said number (lines_of l)) (append-nil line)
      ∙ ap (lines_read layout zones said number) (line_alone line some within) ∙ ap (then_lines []) read

  -- a line that is too long
  pub too_long : (byte : ℕ) (rest : List ℕ) → length line ≡ 128 → line_length line ≡ length line → (byte == 10) ≡ false
      → lines_read layout zones said number (lines_of (line ++ byte ∷ rest)) ≡ Err (Rule number Line)
  too_long byte rest full within other =
      let over = overlong line byte rest within other in
      let long : nat_lt 128 (length over.0) ≡ true = lt-ltb 128 (length over.0) (omega (arith, over.3)) in
      let breaks : line_read layout zones said over.0 ≡ Err Line = rw long refl in
      ap (lines_read layout zones said number) over.2 ∙ ap (then_lines over.1) breaks

-- an error handed on
pub err_from : {A E : Type 0} (P : E → Type 0) (answer : Result A E) (fault : E) → IsErrAnd answer (λ e. e ≡ fault) → P fault → IfErr answer P
err_from P (Ok value) fault is holds = absurd is
err_from P (Err e) fault is holds = subst P (sym is) holds
