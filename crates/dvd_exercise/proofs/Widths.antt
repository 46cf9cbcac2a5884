-- A block that is hurt keeps its size, and so the block that was recorded is found.
use Rattle.std.proofs.Common.{◌≡◌, ◌∙◌, ℕ, suc, ◌+◌, ◌-◌, ◌*◌, ◌<◌, Bool, true, false, List, [], length, get_or, replicate, inl, inr, ap, subst, arith}
use Rattle.std.proofs.lemmas.Bool.Decides.{leb_tells}
use Rattle.std.proofs.lemmas.List.{get_or-replicate, length-replicate}
use Rattle.std.proofs.lemmas.List.Elements.{All-from_get_or}
use Rattle.coding.specs.Product.{line}
use Rattle.dvd_capture.proofs.Bound.{within_agrees}
use Rattle.dvd_exercise.specs.Damage.{IsHurt, IsHurtBy, bad_count, lost_count, damaged_row, start_row}
use Rattle.dvd_exercise.specs.Generator.{state_after}
use Rattle.dvd_exercise.specs.Laws.{HurtIsTwoPass}
use Rattle.dvd_exercise.proofs.Bound.{hurt_within}
use Rattle.dvd_exercise.proofs.Burdens.{Find, find_place}
use Rattle.dvd_exercise.proofs.Rows.{TurnOf, length-combined, miss_from_none}

module _ (bad lost start y : ℕ) (rows : List (List ℕ)) (done : List (List ℕ)) (hurt_marks : List (List Bool))
    (is : IsHurtBy bad lost start y rows (replicate 208 (replicate 182 false)) done hurt_marks) where
  -- a row that is bad or lost has 182 bytes
  turn_width : (t : ℕ) → t < bad + lost → length (line done (damaged_row start t)) ≡ 182
  turn_width t below = by_turn (leb_tells (suc t) bad) where
    -- by whether it is bad
    by_turn : TurnOf bad t → length (line done (damaged_row start t)) ≡ 182
    by_turn (inl early) = ap length (is.bad_rows t early.1) ∙ length-combined (state_after y (182 * t)) (line rows (damaged_row start t))
    by_turn (inr late) =
        let same : bad + (t - bad) ≡ t = omega (arith, late.1) in
        subst (λ (t : ℕ). length (line done (damaged_row start t)) ≡ 182) same (ap length (is.lost_rows (t - bad) (omega (arith, late.1))) ∙ length-replicate {A = ℕ} 182 0)

  -- each row has 182 bytes, as before
  row_width : (k : ℕ) → k < 208 → length (line rows k) ≡ 182 → length (line done k) ≡ 182
  row_width k below width = by_row (find_place (damaged_row start) k (bad + lost)) where
    -- by whether the row is bad or lost
    by_row : Find (damaged_row start) k (bad + lost) → length (line done k) ≡ 182
    by_row (inl found) = subst (λ (k : ℕ). length (line done k) ≡ 182) found.2 (turn_width found.0 found.1)
    by_row (inr none) = (is.others k below (miss_from_none start (bad + lost) k none)).size ∙ width

  -- and 182 marks
  marks_width : (k : ℕ) → k < 208 → length (get_or hurt_marks k []) ≡ 182
  marks_width k below = by_row (find_place (λ t. damaged_row start (bad + t)) k lost) where
    -- by whether the row is lost
    by_row : Find (λ t. damaged_row start (bad + t)) k lost → length (get_or hurt_marks k []) ≡ 182
    by_row (inl found) = subst (λ (k : ℕ). length (get_or hurt_marks k []) ≡ 182) found.2 (ap length (is.marked.changed found.0 found.1) ∙ length-replicate 182 true)
    by_row (inr none) = ap length (is.marked.others k none ∙ get_or-replicate 208 k (replicate 182 false) [] below) ∙ length-replicate 182 false

-- what was recorded is found
pub hurt_agrees : HurtIsTwoPass
hurt_agrees x rows marks done hurt_marks product unmarked is =
    let kept = subst (λ (marks : List (List Bool)). IsHurt x rows marks done hurt_marks) unmarked is in
    let height = product.height in
    let marks_height : length hurt_marks ≡ 208 = kept.marked.size ∙ length-replicate 208 (replicate 182 false) in
    within_agrees rows done hurt_marks product
    (All-from_get_or (λ (row : List ℕ). length row ≡ 182) done [] (λ k below.
    let inside : k < 208 = omega (arith, kept.height, height) in
    row_width (bad_count x) (lost_count x) (start_row x) (state_after x 3) rows done hurt_marks kept k inside (product.rows k [] (omega (arith, height))).size))
    (All-from_get_or (λ (row : List Bool). length row ≡ 182) hurt_marks [] (λ k below.
    marks_width (bad_count x) (lost_count x) (start_row x) (state_after x 3) rows done hurt_marks kept k (omega (arith, marks_height))))
    (hurt_within x rows marks done hurt_marks height unmarked is)
