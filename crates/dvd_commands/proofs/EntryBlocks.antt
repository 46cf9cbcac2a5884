-- Captured blocks by their entries of the plan: what is done for one, whatever that is.
use Rattle.std.proofs.Common.{◌≡◌, ◌⊎◌, inl, inr, ℕ, Bool, List, [], slice_get, Some, Result, Ok, refl, sym, subst, length, take}
use Rattle.dvd_capture.specs.Captured.{captured_marks, captured_rows, record_marks, record_of}
use Rattle.dvd_capture.specs.declared.form.Form.{Form}
use Rattle.dvd_layout.specs.Content.{IsImage}
use Rattle.dvd_layout.specs.declared.entry.BlockPlan.{BlockPlan}
use Rattle.dvd_layout.specs.declared.entry.Content.{Content}
use Rattle.dvd_layout.specs.declared.entry.Content.TheVariants.{Control, Image, Reference, Zero}
use Rattle.dvd_loop.specs.Machine.{Step}
use Rattle.dvd_loop.specs.Streams.{Streams}
use Rattle.dvd_loop.specs.UnitCommand.{AreDone}
use Rattle.dvd_loop.specs.declared.ends.LoopEnd.{LoopEnd}
use Rattle.dvd_loop.specs.declared.ends.UnitKind.{UnitKind}
use Rattle.dvd_loop.specs.declared.ends.UnitKind.TheVariants.{Good}
use Rattle.dvd_commands.specs.Captured.{IfImage, IsDoneByEntry}
use Rattle.dvd_commands.proofs.PlanEntries.{one_entry}
use Rattle.dvd_commands.proofs.TwoSteps.{done_as, nothing_done}
use Rattle.std.proofs.lemmas.List.FromFn.{length-map-range_with_len}
use Rattle.coding.specs.Recording.{record_at}

-- where nothing may be done for what a block holds, it is passed over
pub passed_over : (May : Content → List Step → UnitKind → Type 0) (content held : Content) → content ≡ held → May held [] Good → (old : Streams)
    → AreDone (May content) old old (Ok Good)
passed_over May content held is may = nothing_done (May content) Good (subst (λ c. May c [] Good) (sym is) may)

module _ (Performs : List Step → UnitKind → Type 0) where
  -- so it is where it holds no image
  pub no_image : (content : Content) → (content ≡ Zero) ⊎ ((content ≡ Reference) ⊎ (content ≡ Control)) → (old : Streams)
      → AreDone (IfImage Performs content) old old (Ok Good)
  no_image content (inl is) = passed_over (IfImage Performs) content Zero is (refl, refl)
  no_image content (inr (inl is)) = passed_over (IfImage Performs) content Reference is (refl, refl)
  no_image content (inr (inr is)) = passed_over (IfImage Performs) content Control is (refl, refl)

  -- where it holds image, what is done for that is done for it,
  pub an_image : (content : Content) (sector : ℕ) → content ≡ Image sector → (old new : Streams) (answer : Result UnitKind LoopEnd) → AreDone Performs old new answer
      → AreDone (IfImage Performs content) old new answer
  an_image content sector is old new answer = subst (λ c. AreDone (IfImage Performs c) old new answer) (sym is)

  -- and nothing else is
  pub of_image : (content : Content) → IsImage content → (steps : List Step) (kind : UnitKind) → IfImage Performs content steps kind → Performs steps kind
  of_image (Image sector) is steps kind does = does
  of_image Zero is steps kind does = absurd is
  of_image Reference is steps kind does = absurd is
  of_image Control is steps kind does = absurd is

module _ (entries : List BlockPlan) (Performs : BlockPlan → List (List ℕ) → List (List Bool) → List Step → UnitKind → Type 0) (form : Form) (k : ℕ) (entry : BlockPlan)
    (is_there : slice_get entries k ≡ Some entry) (own : List ℕ) where
  -- what is done for the rows and marks of captured bytes is done for block k
  pub done_by_entry : (rows : List (List ℕ)) (marks : List (List Bool)) → rows ≡ captured_rows form own → marks ≡ captured_marks form own
      → (old new : Streams) (answer : Result UnitKind LoopEnd) → AreDone (Performs entry rows marks) old new answer
      → AreDone (IsDoneByEntry entries Performs form k own) old new answer
  done_by_entry rows marks rows_are marks_are =
      done_as (Performs entry rows marks) (IsDoneByEntry entries Performs form k own)
      (λ steps kind does. record {
        entry = entry;
        is_there = is_there;
        does = subst (λ m. Performs entry (captured_rows form own) m steps kind) marks_are (subst (λ r. Performs entry r marks steps kind) rows_are does);
      })

  -- and what is done for block k is done for the entry that is there
  pub done_at : (steps : List Step) (kind : UnitKind) → IsDoneByEntry entries Performs form k own steps kind
      → Performs entry (captured_rows form own) (captured_marks form own) steps kind
  done_at steps kind does =
      subst (λ e. Performs e (captured_rows form own) (captured_marks form own) steps kind) (one_entry entries k does.entry entry does.is_there is_there) does.does

-- A captured block has 208 rows, with marks for each.
pub length-captured_rows : (form : Form) (own : List ℕ) → length (captured_rows form own) ≡ 208
unfolding captured_rows
length-captured_rows form own = length-map-range_with_len (λ i. take 182 (record_of form own (record_at i))) 0 208

-- and marks for each of them
pub length-captured_marks : (form : Form) (own : List ℕ) → length (captured_marks form own) ≡ 208
unfolding captured_marks
length-captured_marks form own = length-map-range_with_len (λ i. record_marks form own (record_at i)) 0 208
