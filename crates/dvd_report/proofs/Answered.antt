-- What loops over a survey need to know of it.
use Rattle.std.proofs.Common.{◌≡◌, ◌∙◌, ℕ, Bool, List, length, ap, sym, IfErr, OnOk, Ok, Err, Some, Result}
use Rattle.std.specs.Result.{result_err}
use Rattle.dvd_layout.specs.declared.entry.BlockPlan.{BlockPlan}
use Rattle.dvd_decoding.specs.Reading.{block_cause, IsReadAs}
use Rattle.dvd_decoding.specs.declared.cause.Cause.{Cause}
use Rattle.dvd_read.specs.declared.fixed.Fixed.{Fixed}
use Rattle.dvd_read.proofs.BlockRead.{read-determined}
use Rattle.dvd_report.specs.Survey.{Represents, surveyed, surveyed_with, SurveyState}
use Rattle.dvd_report.specs.declared.counts.Surveyed.{Surveyed}
use Rattle.dvd_report.specs.declared.counts.Totals.{Totals}
use Rattle.dvd_report.proofs.Sums.{totals-blocks}

-- what is added of a block that was read as an entry of a plan is what a survey keeps of it
pub surveyed-read : (rows : List (List ℕ)) (marks : List (List Bool)) (entry : BlockPlan) (sectors : List (List ℕ)) (answer : Result Fixed Cause)
    → length rows ≡ 208 → length marks ≡ 208
    → OnOk answer (IsReadAs rows marks entry sectors) → IfErr answer (λ cause. block_cause rows marks entry ≡ Some cause)
    → surveyed_with rows marks (result_err answer) ≡ surveyed rows marks entry
unfolding surveyed
surveyed-read rows marks entry sectors (Ok fixed) size marks_size read refused =
    ap (surveyed_with rows marks) (sym (read-determined rows marks entry sectors size marks_size read).0)
surveyed-read rows marks entry sectors (Err cause) size marks_size read refused = ap (surveyed_with rows marks) (sym refused)

-- how many blocks the survey of a list has counted
pub blocks-counted : (survey : SurveyState) (blocks : List Surveyed) → Represents survey blocks → survey.totals.blocks ≡ length blocks
blocks-counted survey blocks is_there = ap (λ (totals : Totals). totals.blocks) is_there.totals ∙ totals-blocks blocks
