-- A unit for which nothing is done, and one for which a line is reported and then bytes are written.
use Rattle.std.proofs.Common.{◌≡◌, ◌∙◌, List, [], ◌∷◌, ℕ, IfErr, Result, Ok, Err, sym, subst}
use Rattle.dvd_ports.specs.Bytes.{Appends}
use Rattle.dvd_ports.specs.Causes.{HasFailed, HasGoneOn}
use Rattle.dvd_ports.specs.Seen.{Seen}
use Rattle.dvd_ports.specs.Whole.{AppendsPrefix, IsWritten}
use Rattle.dvd_ports.proofs.StopLemmas.{unmoved}
use Rattle.dvd_loop.specs.Machine.{Performs, Step}
use Rattle.dvd_loop.specs.Machine.Step.{Report, Write}
use Rattle.dvd_loop.specs.Streams.{HaveGoneOn, HaveReached, Streams, streams}
use Rattle.dvd_loop.specs.UnitCommand.{AreDone, AreSteps, HaveCausesFor, Nothing}
use Rattle.dvd_loop.specs.declared.ends.LoopEnd.{LoopEnd}
use Rattle.dvd_loop.specs.declared.ends.LoopEnd.TheVariants.{ReportFault}
use Rattle.dvd_loop.specs.declared.ends.UnitKind.{UnitKind}
use Rattle.dvd_loop.proofs.StreamLemmas.{all_unmoved, causes_first, go_on, stays}
use Rattle.dvd_commands.specs.Inner.Performing.{WritesAlone}
use Rattle.dvd_loop.proofs.UnitLemmas.{line_begun, step_told, steps_after_line}

-- what may be done may be said otherwise
pub done_as : (May Other : List Step → UnitKind → Type 0) → ((steps : List Step) (kind : UnitKind) → May steps kind → Other steps kind)
    → (old new : Streams) (answer : Result UnitKind LoopEnd) → AreDone May old new answer → AreDone Other old new answer
done_as May Other to old new answer done =
    record { steps = done.steps; kind = done.kind; may = to done.steps done.kind done.may; done = done.done; is = done.is; causes = done.causes }

-- nothing is done, and nothing had to be
pub nothing_done : (May : List Step → UnitKind → Type 0) (kind : UnitKind) → May [] kind → (old : Streams) → AreDone May old old (Ok kind)
nothing_done May kind may old = record {
  steps = [];
  kind = kind;
  may = may;
  done = stays old;
  is = λ value is. cc;
  causes = all_unmoved old;
}

-- after calls that went well an answer has the cause that it had
causes_behind : (old now new : Streams) (answer : Result UnitKind LoopEnd) → HaveGoneOn old now → HaveCausesFor answer now new → HaveCausesFor answer old new
causes_behind old now new (Ok kind) first next = go_on old now new first next
causes_behind old now new (Err end) first next = causes_first old now new end end first next

module _ (May : List Step → UnitKind → Type 0) (line bytes : List ℕ) (kind : UnitKind) (may : May (Report line ∷ Write bytes ∷ []) kind) where
  -- the report failed within the line
  pub line_fails : (source output report new_report : Seen) (answer : Result UnitKind LoopEnd) → answer ≡ Err ReportFault
      → AppendsPrefix report.bytes new_report.bytes line → HasFailed report new_report
      → AreDone May (streams source output report) (streams source output new_report) answer
  line_fails source output report new_report answer is begun failed =
      subst (AreDone May (streams source output report) (streams source output new_report)) (sym is) (record {
        steps = Report line ∷ Write bytes ∷ [];
        kind = kind;
        may = may;
        done = line_begun source output report new_report line (Write bytes ∷ []) begun;
        is = λ value ok. cc;
        causes = record { source = unmoved source; output = unmoved output; report = failed };
      })

  -- the line was reported, and what was done after it is that the bytes were written
  pub line_then : (source output new_output report new_report : Seen) → Appends report.bytes new_report.bytes line → HasGoneOn report new_report
      → (answer : Result UnitKind LoopEnd) → AreDone (WritesAlone bytes kind) (streams source output new_report) (streams source new_output new_report) answer
      → AreDone May (streams source output report) (streams source new_output new_report) answer
  line_then source output new_output report new_report reports steady answer written = record {
    steps = Report line ∷ Write bytes ∷ [];
    kind = kind;
    may = may;
    done = steps_after_line line (Write bytes ∷ []) (streams source output report) (streams source output new_report) (streams source new_output new_report) answer
        (step_told source output report new_report line reports)
        (subst (λ steps. AreSteps steps (streams source output new_report) (streams source new_output new_report) answer) written.may.0 written.done);
    is = λ value is. written.is value is ∙ written.may.1;
    causes = causes_behind (streams source output report) (streams source output new_report) (streams source new_output new_report) answer
        (record { source = unmoved source; output = unmoved output; report = steady }) written.causes;
  }

-- a line is one step, whether it was reported or not
pub told_steps : (source output report new_report : Seen) (line : List ℕ) (answer : Result (Unit {0}) LoopEnd) → IsWritten line report new_report answer
    → IfErr answer (λ end. end ≡ ReportFault) → AreSteps (Report line ∷ []) (streams source output report) (streams source output new_report) answer
told_steps source output report new_report line (Ok value) known fault = step_told source output report new_report line known.written
told_steps source output report new_report line (Err end) known fault =
    subst (HaveReached (λ input. Performs (Report line ∷ []) Nothing) (streams source output report) (streams source output new_report)) (sym fault)
    (line_begun source output report new_report line [] known.begun)

-- bytes were written for a unit, of which that may be all
pub write_is : (May : List Step → UnitKind → Type 0) (bytes : List ℕ) (kind : UnitKind) → May (Write bytes ∷ []) kind
    → (old new : Streams) (answer : Result UnitKind LoopEnd) → AreDone (WritesAlone bytes kind) old new answer → AreDone May old new answer
write_is May bytes kind may =
    done_as (WritesAlone bytes kind) May
    (λ steps done is. subst (λ s. May s done) (sym is.0) (subst (May (Write bytes ∷ [])) (sym is.1) may))
