-- A loop and its closing line.
use Rattle.std.proofs.Common.{◌≡◌, inl, inr, ℕ, List, [], ◌∷◌, refl, ap, sym, subst, ◌∙◌}
use Rattle.dvd_loop.specs.Machine.{Closes, Performs, IsClosed, Outcome, ended}
use Rattle.dvd_loop.specs.Machine.Step.{Report}
use Rattle.dvd_loop.specs.Streams.{Counts, HaveCauses, SourceCounts, Streams, is_report_fault, is_write_fault}
use Rattle.dvd_loop.specs.declared.ends.LoopEnd.{LoopEnd}
use Rattle.dvd_loop.specs.declared.ends.LoopEnd.TheVariants.{ReportFault}
use Rattle.dvd_loop.proofs.StepLemmas.{and_then}

-- a line that is reported takes nothing of the input
line_takes : (line : List ℕ) (end : LoopEnd) (outcome : Outcome) → Performs (Report line ∷ []) (λ after. after ≡ ended end) outcome → outcome.taken ≡ []
line_takes line end outcome does = elim does [
  | inl (prefix, left, whole, some, is) ↦ ap (λ (o : Outcome). o.taken) is
  | inr (after, is, taken) ↦ (ap (λ (o : Outcome). o.taken) taken ∙ ap (λ (o : Outcome). o.taken) is)
]

-- a closing line takes nothing of the input
pub closes_takes : (closing : LoopEnd → List ℕ) (end : LoopEnd) (outcome : Outcome) → Closes closing end outcome → outcome.taken ≡ []
closes_takes closing ReportFault outcome is = ap (λ (o : Outcome). o.taken) is
closes_takes closing end outcome does = line_takes (closing end) end outcome does

-- a loop, and its closing line after it
pub closed : (closing : LoopEnd → List ℕ) (May : Outcome → Type 0) (within : LoopEnd) (loop line : Outcome) → May loop
    → loop.end ≡ within → Closes closing within line → IsClosed closing May within (and_then loop line)
closed closing May within loop line runs ends closes = record { loop = loop; runs = runs; ends = ends; line = line; closes = closes; all = refl }

-- The counts of a loop and of its closing line: the line's is the report's alone.
pub causes_closed : (within end : LoopEnd) (old mid new : Streams) → HaveCauses within within old mid → new.source ≡ mid.source
    → new.output ≡ mid.output
    → Counts (is_report_fault end) old.report new.report → HaveCauses within end old new
causes_closed within end old mid new loop source output report = record {
  source = subst (SourceCounts within old.source) (sym source) loop.source;
  output = subst (Counts (is_write_fault within) old.output) (sym output) loop.output;
  report = report;
}
