-- What `survey` does for a block is one thing, and it does something for each.
use Rattle.std.proofs.Common.{◌≡◌, ℕ, List, ◌∷◌, ◌++◌, [], length, refl, ap, sym, ◌∙◌, ◌<◌}
use Rattle.dvd_capture.specs.Captured.{captured_marks, captured_rows}
use Rattle.dvd_capture.specs.declared.form.Form.{Form}
use Rattle.dvd_layout.specs.Plan.{plan_of}
use Rattle.dvd_layout.specs.declared.layout.Layout.{Layout}
use Rattle.dvd_layout.specs.declared.layout.Zones.{Zones}
use Rattle.dvd_commands.proofs.PlanEntries.{one_entry, some_entry}
use Rattle.dvd_loop.specs.Machine.Step.{Write}
use Rattle.dvd_decoding.specs.Reading.{block_cause}
use Rattle.dvd_report.specs.Survey.{survey_line}
use Rattle.dvd_commands.specs.Survey.{IsSurveyed, found_in, kind_by}
use Rattle.dvd_commands.proofs.OneThing.{MayOne}
use Rattle.dvd_commands.proofs.SomeThing.{MaySome}

-- The line of each block is one.
pub surveyed_is_one : (layout : Layout) (zones : Zones) (form : Form) (k : ℕ) (before : List (List ℕ)) (own : List ℕ) → MayOne (IsSurveyed layout zones form k before own)
surveyed_is_one layout zones form k before own steps others kind other p q =
    let entry : p.entry ≡ q.entry = one_entry (plan_of layout zones) k p.entry q.entry p.is_there q.is_there in
    let found = found_in layout zones form (before ++ own ∷ []) in (
      p.writes ∙ ap (λ e. Write (survey_line k e found) ∷ []) entry ∙ sym q.writes,
      p.answers ∙ ap (λ e. kind_by (block_cause (captured_rows form own) (captured_marks form own) e)) entry ∙ sym q.answers,
    )

-- Every block has a line.
pub surveyed_some : (layout : Layout) (zones : Zones) (form : Form) (before : List (List ℕ)) (own : List ℕ) → length before < length (plan_of layout zones)
    → MaySome (IsSurveyed layout zones form (length before) before own)
surveyed_some layout zones form before own within =
    let some = some_entry (plan_of layout zones) (length before) within in
    (_, _, record { entry = some.0; is_there = some.1; writes = refl; answers = refl })
