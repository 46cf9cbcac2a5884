-- One block that `info` asks.
use Rattle.std.proofs.Common.{◌≡◌, ◌⊎◌, inl, inr, ℕ, Bool, List, [], ◌∷◌, None, Some, Result, Ok, Err, IfErr, OnOk, refl, sym, subst}
use Rattle.std.specs.Result.{result_ok}
use Rattle.dvd_capture.specs.Captured.{captured_marks, captured_rows}
use Rattle.dvd_capture.specs.declared.form.Form.{Form}
use Rattle.dvd_control.specs.Format.{Fields}
use Rattle.dvd_layout.specs.declared.entry.BlockPlan.{BlockPlan}
use Rattle.dvd_layout.specs.declared.entry.Content.{Content}
use Rattle.dvd_layout.specs.declared.entry.Content.TheVariants.{Control, Image, Reference, Zero}
use Rattle.dvd_loop.specs.Laws.{IsNever}
use Rattle.dvd_loop.specs.Machine.{Step}
use Rattle.dvd_loop.specs.Machine.Step.{Write}
use Rattle.dvd_loop.specs.Streams.{Streams}
use Rattle.dvd_loop.specs.UnitCommand.{AreDone}
use Rattle.dvd_loop.specs.declared.ends.UnitKind.{UnitKind}
use Rattle.dvd_loop.specs.declared.ends.UnitKind.TheVariants.{Bad, Good, Last}
use Rattle.dvd_loop.proofs.Silent.{AreWrites, one_write}
use Rattle.dvd_commands.specs.Info.{IsAsked, IsControlDone, format_lines, info_units}
use Rattle.dvd_commands.specs.Inner.Performing.{AnswersNothing, GivesFormat}
use Rattle.dvd_commands.proofs.EntryBlocks.{passed_over}
use Rattle.dvd_commands.proofs.TwoSteps.{nothing_done}

-- a result without a value has an error, of which this holds
pub not_ok : {A B : Type 0} (r : Result A B) (P : B → Type 0) → result_ok r ≡ None → IfErr r P → (e : B) × P e
not_ok (Ok value) P none holds = absurd (let no : Some value ≡ None = none in cc)
not_ok (Err e) P none holds = (e, holds)

-- what holds where a result is right holds of one with a value
pub on_ok : {A B : Type 0} (r : Result A B) (P : Type 0) (value : A) → result_ok r ≡ Some value → OnOk r P → P
on_ok (Ok own) P value some holds = holds
on_ok (Err e) P value some holds = absurd (let no : None ≡ Some value = some in cc)

-- a format that is found is an answer
pub answers : (entry : BlockPlan) (rows : List (List ℕ)) (marks : List (List Bool)) (format : Fields) → GivesFormat entry rows marks format
    → IsControlDone entry rows marks (Write (format_lines format) ∷ []) Last
answers entry rows marks format reports =
    subst (λ f. IsControlDone entry rows marks (Write (format_lines f) ∷ []) Last) (sym reports.fields)
    (inl (record { sectors = reports.sectors; read = reports.read; valid = reports.valid; writes = refl; last = refl }))

-- where none is found nothing is done
pub silent : (entry : BlockPlan) (rows : List (List ℕ)) (marks : List (List Bool)) (old : Streams) → AnswersNothing entry rows marks
    → AreDone (IsControlDone entry rows marks) old old (Ok Good)
silent entry rows marks old none = nothing_done (IsControlDone entry rows marks) Good (inr none) old

-- nothing is done for a block that holds no control data
pub passed : (content : Content) → (content ≡ Zero) ⊎ ((content ≡ Reference) ⊎ ((sector : ℕ) × (content ≡ Image sector)))
    → (entry : BlockPlan) (rows : List (List ℕ)) (marks : List (List Bool)) (old : Streams)
    → AreDone (IsAsked content entry rows marks) old old (Ok Good)
passed content (inl is) entry rows marks = passed_over (λ c. IsAsked c entry rows marks) content Zero is (refl, refl)
passed content (inr (inl is)) entry rows marks = passed_over (λ c. IsAsked c entry rows marks) content Reference is (refl, refl)
passed content (inr (inr (sector, is))) entry rows marks = passed_over (λ c. IsAsked c entry rows marks) content (Image sector) is (refl, refl)

-- no block that `info` asks counts as damaged
asked_never_bad : (content : Content) (entry : BlockPlan) (rows : List (List ℕ)) (marks : List (List Bool)) (steps : List Step)
    → IsAsked content entry rows marks steps Bad → ⊥
asked_never_bad Control entry rows marks steps does = elim does [
  | inl answer ↦ (let no = answer.last in cc)
  | inr none ↦ (let no = none.good in cc)
]
asked_never_bad Zero entry rows marks steps does = let no = does.1 in cc
asked_never_bad Reference entry rows marks steps does = let no = does.1 in cc
asked_never_bad (Image sector) entry rows marks steps does = let no = does.1 in cc

-- no block is counted as damaged
pub never_bad : (initial : ℕ) (form : Form) → IsNever (info_units initial form) Bad
never_bad initial form k before own steps does =
    asked_never_bad does.entry.content does.entry (captured_rows form own) (captured_marks form own) steps does.does

-- no line is reported for a block
pub asked_silent : (content : Content) (entry : BlockPlan) (rows : List (List ℕ)) (marks : List (List Bool)) (steps : List Step) (kind : UnitKind)
    → IsAsked content entry rows marks steps kind → AreWrites steps
asked_silent Control entry rows marks steps kind does = elim does [
  | inl answer ↦ one_write steps _ answer.writes
  | inr none ↦ subst AreWrites (sym none.nothing) tt
]
asked_silent Zero entry rows marks steps kind does = subst AreWrites (sym does.0) tt
asked_silent Reference entry rows marks steps kind does = subst AreWrites (sym does.0) tt
asked_silent (Image sector) entry rows marks steps kind does = subst AreWrites (sym does.0) tt
