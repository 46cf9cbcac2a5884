-- The damage is determined.
use Rattle.std.proofs.Common.{◌≡◌, ◌∙◌, ℕ, ◌+◌, ◌-◌, ◌<◌, Bool, true, suc, List, [], length, get_or, replicate, inl, inr, sym, subst, arith}
use Rattle.std.proofs.lemmas.Bool.Decides.{leb_tells}
use Rattle.std.proofs.lemmas.List.{ext_get_or}
use Rattle.dvd_exercise.specs.Damage.{IsChanged, IsHurtBy, bad_count, lost_count, damaged_row, start_row}
use Rattle.dvd_exercise.specs.Generator.{state_after}
use Rattle.dvd_exercise.specs.Laws.{HurtIsOnlyOne}
use Rattle.dvd_exercise.proofs.Burdens.{Find, find_place}
use Rattle.dvd_exercise.proofs.Rows.{TurnOf, miss_from_none}

-- lists with the same changes are the same
changed_once : {X : Type 0} (none : X) (n : ℕ) (place : ℕ → ℕ) (value : ℕ → X) (before a b : List X)
    → IsChanged none n place value before a → IsChanged none n place value before b → a ≡ b
changed_once none n place value before a b is_a is_b =
    ext_get_or none a b (is_a.size ∙ sym is_b.size) (λ k below. at_place k (find_place place k n)) where
      -- by whether the place is changed
      at_place : (k : ℕ) → Find place k n → get_or a k none ≡ get_or b k none
      at_place k (inl found) = subst (λ (k : ℕ). get_or a k none ≡ get_or b k none) found.2 (is_a.changed found.0 found.1 ∙ sym (is_b.changed found.0 found.1))
      at_place k (inr free) = is_a.others k free ∙ sym (is_b.others k free)

module _ (bad lost start y : ℕ) (rows a b : List (List ℕ)) (marks a_marks b_marks : List (List Bool)) (height : length rows ≡ 208)
    (is_a : IsHurtBy bad lost start y rows marks a a_marks) (is_b : IsHurtBy bad lost start y rows marks b b_marks) where
  -- a row that is bad or lost is the same in both
  turn_once : (t : ℕ) → t < bad + lost → get_or a (damaged_row start t) [] ≡ get_or b (damaged_row start t) []
  turn_once t below = by_turn (leb_tells (suc t) bad) where
    -- by whether it is bad
    by_turn : TurnOf bad t → get_or a (damaged_row start t) [] ≡ get_or b (damaged_row start t) []
    by_turn (inl early) = is_a.bad_rows t early.1 ∙ sym (is_b.bad_rows t early.1)
    by_turn (inr late) =
        let same : bad + (t - bad) ≡ t = omega (arith, late.1) in
        let inside : t - bad < lost = omega (arith, late.1) in
        subst (λ (t : ℕ). get_or a (damaged_row start t) [] ≡ get_or b (damaged_row start t) []) same (is_a.lost_rows (t - bad) inside ∙ sym (is_b.lost_rows (t - bad) inside))

  -- and so are all rows and marks
  hurt_by_once : (a ≡ b) × (a_marks ≡ b_marks)
  hurt_by_once = (
    ext_get_or [] a b (is_a.height ∙ sym is_b.height) (λ k below. by_row k (omega (arith, is_a.height)) (find_place (damaged_row start) k (bad + lost))),
    changed_once [] lost (λ t. damaged_row start (bad + t)) (λ _. replicate 182 true) marks a_marks b_marks is_a.marked is_b.marked,
  ) where
    -- by whether the row is bad or lost
    by_row : (k : ℕ) → k < 208 → Find (damaged_row start) k (bad + lost) → get_or a k [] ≡ get_or b k []
    by_row k below (inl found) = subst (λ (k : ℕ). get_or a k [] ≡ get_or b k []) found.2 (turn_once found.0 found.1)
    by_row k below (inr none) =
        let miss = miss_from_none start (bad + lost) k none in
        changed_once 0 _ _ _ (get_or rows k []) (get_or a k []) (get_or b k []) (is_a.others k below miss) (is_b.others k below miss)

-- one state hurts a block in one way
pub hurt_once : HurtIsOnlyOne
hurt_once x rows marks a b a_marks b_marks height is_a is_b =
    hurt_by_once (bad_count x) (lost_count x) (start_row x) (state_after x 3) rows a b marks a_marks b_marks height is_a is_b
