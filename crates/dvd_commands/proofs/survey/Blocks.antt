-- The blocks of a stream that `survey` goes over, one after the other.
use Rattle.std.proofs.Common.{◌≡◌, ◌≤◌, ◌<◌, ◌∙◌, ℕ, zero, suc, Bool, List, [], ◌∷◌, ◌++◌, length, map, zip, slice_get, Option, None, Some, Result, Ok, Err, OnOk, IfErr, refl, ap, sym, subst, arith}
use Rattle.std.specs.Result.{result_err}
use Rattle.std.proofs.lemmas.List.{map-append, length-map}
use Rattle.std.proofs.lemmas.Slice.Zip.{length-zip}
use Rattle.dvd_capture.specs.Captured.{captured_marks, captured_rows}
use Rattle.dvd_capture.specs.declared.form.Form.{Form}
use Rattle.dvd_layout.specs.Plan.{plan_of}
use Rattle.dvd_layout.specs.declared.entry.BlockPlan.{BlockPlan}
use Rattle.dvd_layout.specs.declared.layout.Layout.{Layout}
use Rattle.dvd_layout.specs.declared.layout.Zones.{Zones}
use Rattle.dvd_capture.specs.Parts.{marks_rows, received_rows}
use Rattle.dvd_capture.specs.Works.{marks_of_work, rows_of}
use Rattle.dvd_capture.specs.declared.work.Work.{Work}
use Rattle.dvd_loop.specs.Machine.{Step}
use Rattle.dvd_loop.specs.Machine.Step.{Write}
use Rattle.dvd_loop.specs.declared.ends.UnitKind.{UnitKind}
use Rattle.dvd_decoding.specs.Reading.{block_cause}
use Rattle.dvd_decoding.specs.declared.cause.Cause.{Cause}
use Rattle.dvd_read.specs.declared.fixed.Fixed.{Fixed}
use Rattle.dvd_report.specs.Survey.{Represents, SurveyState, survey_line, surveyed, surveyed_with}
use Rattle.dvd_report.specs.declared.counts.Surveyed.{Surveyed}
use Rattle.dvd_commands.specs.Survey.{IsSurveyed, found_in, found_of, kind_by}
use Rattle.dvd_commands.specs.Inner.Performing.{IsLineDone}

-- one more beside the one at its place
zip_more : {A B : Type 0} (xs : List A) (ys : List B) (n : ℕ) (x : A) (y : B) → length xs ≡ n → slice_get ys n ≡ Some y
    → zip (xs ++ x ∷ []) ys ≡ zip xs ys ++ (x, y) ∷ []
zip_more [] [] n x y size at = absurd (let no : None ≡ Some y = at in cc)
zip_more [] (b ∷ ys) zero x y size at = let same : b ≡ y = (let some : Some b ≡ Some y = at in cc) in ap (λ z. (x, z) ∷ []) same
zip_more [] (b ∷ ys) (suc n) x y size at = absurd (let no : 0 ≡ suc n = size in omega arith)
zip_more (a ∷ xs) [] n x y size at = absurd (let no : None ≡ Some y = at in cc)
zip_more (a ∷ xs) (b ∷ ys) zero x y size at = absurd (omega (arith, size))
zip_more (a ∷ xs) (b ∷ ys) (suc n) x y size at = ap (λ l. (a, b) ∷ l) (zip_more xs ys n x y (omega (arith, size)) at)

-- what is found with one block more
pub found_more : (layout : Layout) (zones : Zones) (form : Form) (before : List (List ℕ)) (own : List ℕ) (entry : BlockPlan)
    → slice_get (plan_of layout zones) (length before) ≡ Some entry
    → found_in layout zones form (before ++ own ∷ []) ≡ found_in layout zones form before ++ surveyed (captured_rows form own) (captured_marks form own) entry ∷ []
unfolding found_in
found_more layout zones form before own entry is_there =
    ap (map (found_of form)) (zip_more before (plan_of layout zones) (length before) own entry refl is_there)
    ∙ map-append (found_of form) (zip before (plan_of layout zones)) ((own, entry) ∷ [])

-- something is found of each block of the plan
pub length-found : (layout : Layout) (zones : Zones) (form : Form) (before : List (List ℕ)) → length before ≤ length (plan_of layout zones)
    → length (found_in layout zones form before) ≡ length before
unfolding found_in
length-found layout zones form before few =
    let mapped : length (map (found_of form) (zip before (plan_of layout zones))) ≡ length (zip before (plan_of layout zones)) = length-map (zip before (plan_of layout zones)) (found_of form) in
    let zipped = length-zip before (plan_of layout zones) in
    omega (arith, mapped, zipped, few)

-- the cause that an answer holds, or none
pub cause_is : (answer : Result Fixed Cause) (cause : Option Cause) → OnOk answer (cause ≡ None) → IfErr answer (λ own. cause ≡ Some own)
    → result_err answer ≡ cause
cause_is (Ok fixed) cause right refused = sym right
cause_is (Err own) cause right refused = sym refused

-- a block is surveyed by its cause
surveyed_is : (rows : List (List ℕ)) (marks : List (List Bool)) (entry : BlockPlan) (cause : Option Cause) → cause ≡ block_cause rows marks entry
    → surveyed_with rows marks cause ≡ surveyed rows marks entry
unfolding surveyed
surveyed_is rows marks entry cause is = ap (surveyed_with rows marks) is

-- what was added of a block that was read with this answer is what is found of it as an entry
pub stands_more : (after : SurveyState) (old new : Work) (entry : BlockPlan) (answer : Result Fixed Cause) (blocks : List Surveyed)
    → Represents after (blocks ++ surveyed_with (rows_of new) (marks_of_work new) (result_err answer) ∷ [])
    → new.received ≡ old.received → new.marks ≡ old.marks
    → OnOk answer (block_cause (rows_of old) (marks_of_work old) entry ≡ None) → IfErr answer (λ own. block_cause (rows_of old) (marks_of_work old) entry ≡ Some own)
    → Represents after (blocks ++ surveyed (rows_of old) (marks_of_work old) entry ∷ [])
stands_more after old new entry answer blocks is_there received marks right refused =
    subst (λ block. Represents after (blocks ++ block ∷ []))
    (ap (λ r. surveyed_with (received_rows r) (marks_of_work new) (result_err answer)) received
    ∙ ap (λ m. surveyed_with (rows_of old) (marks_rows m) (result_err answer)) marks
    ∙ surveyed_is (rows_of old) (marks_of_work old) entry (result_err answer)
    (cause_is answer (block_cause (rows_of old) (marks_of_work old) entry) right refused))
    is_there

-- Block k of a plan, after those before it, whose captured bytes have these rows and marks.
module _ (layout : Layout) (zones : Zones) (form : Form) (k : ℕ) (before : List (List ℕ)) (number : length before ≡ k) (own : List ℕ) (entry : BlockPlan)
    (is_there : slice_get (plan_of layout zones) k ≡ Some entry)
    (rows : List (List ℕ)) (marks : List (List Bool)) (rows_are : rows ≡ captured_rows form own) (marks_are : marks ≡ captured_marks form own) where
  -- what is found with it
  found_with : found_in layout zones form (before ++ own ∷ []) ≡ found_in layout zones form before ++ surveyed rows marks entry ∷ []
  found_with =
      found_more layout zones form before own entry (subst (λ n. slice_get (plan_of layout zones) n ≡ Some entry) (sym number) is_there)
      ∙ ap (λ r. found_in layout zones form before ++ surveyed r (captured_marks form own) entry ∷ []) (sym rows_are)
      ∙ ap (λ m. found_in layout zones form before ++ surveyed rows m entry ∷ []) (sym marks_are)

  -- a state of the survey of the blocks found before and of this one is that of all found up to block k
  pub next_stands : (after : SurveyState) → Represents after (found_in layout zones form before ++ surveyed rows marks entry ∷ [])
      → Represents after (found_in layout zones form (before ++ own ∷ []))
  next_stands after is = subst (Represents after) (sym found_with) is

  -- and its line, with what it answers, is what is done for block k
  pub line_done : k < length (plan_of layout zones) → (steps : List Step) (kind : UnitKind)
      → IsLineDone entry (found_in layout zones form before) rows marks steps kind → IsSurveyed layout zones form k before own steps kind
  line_done within steps kind does =
      let size : length (found_in layout zones form before) ≡ k = length-found layout zones form before (omega (arith, number, within)) ∙ number in record {
        entry = entry;
        is_there = is_there;
        writes = does.writes
            ∙ ap (λ n. Write (survey_line n entry (found_in layout zones form before ++ surveyed rows marks entry ∷ [])) ∷ []) size
            ∙ ap (λ blocks. Write (survey_line k entry blocks) ∷ []) (sym found_with);
        answers = does.answers ∙ ap (λ r. kind_by (block_cause r marks entry)) rows_are ∙ ap (λ m. kind_by (block_cause (captured_rows form own) m entry)) marks_are;
      }
