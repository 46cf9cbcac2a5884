-- The whole damage from its three parts: bad rows, lost rows, and single errors in the others.
use Rattle.std.proofs.Common.{◌≡◌, ◌∙◌, ℕ, ◌+◌, ◌*◌, ◌<◌, Bool, true, false, List, [], length, replicate, refl, sym, subst, arith}
use Rattle.coding.specs.Product.{line}
use Rattle.dvd_exercise.specs.Damage.{HasErrors, IsChanged, IsHurt, IsHurtBy, bad_count, combined, is_hit, lost_count, damaged_row, row_state, start_row}
use Rattle.dvd_exercise.specs.Generator.{state_after}
use Rattle.dvd_exercise.proofs.Rows.{hit_at, not_hit, damaged_row-new}

module _ (bad lost start y z : ℕ) (rows bad_done lost_done done : List (List ℕ)) (marks bad_marks lost_marks hurt_marks : List (List Bool)) (few : bad + lost < 208)
    (height : length done ≡ length rows)
    (bad_rows : IsChanged [] bad (damaged_row start) (λ t. combined (state_after y (182 * t)) (line rows (damaged_row start t))) rows bad_done)
    (lost_rows : IsChanged [] lost (λ t. damaged_row start (bad + t)) (λ _. replicate 182 0) bad_done lost_done)
    (marked : IsChanged [] lost (λ t. damaged_row start (bad + t)) (λ _. replicate 182 true) bad_marks lost_marks)
    (marks_before : bad_marks ≡ marks) (marks_after : hurt_marks ≡ lost_marks) (drawn : z ≡ state_after y (182 * bad))
    (hit : (row : ℕ) → row < 208 → is_hit start (bad + lost) row ≡ true → line done row ≡ line lost_done row)
    (others : (row : ℕ) → row < 208 → is_hit start (bad + lost) row ≡ false
    → HasErrors (row_state start (bad + lost) z row) (line lost_done row) (line done row)) where
  -- no part of the damage touches what another one did
  pub hurt_by : IsHurtBy bad lost start y rows marks done hurt_marks
  hurt_by = record {
    height = height;
    bad_rows = λ t below.
        hit (damaged_row start t) (omega arith) (hit_at start (bad + lost) (damaged_row start t) t (omega arith) refl)
        ∙ lost_rows.others (damaged_row start t) (λ k here same. damaged_row-new start (bad + k) t (omega arith) (omega arith) (sym same))
        ∙ bad_rows.changed t below;
    lost_rows = λ t below.
        hit (damaged_row start (bad + t)) (omega arith) (hit_at start (bad + lost) (damaged_row start (bad + t)) (bad + t) (omega arith) refl)
        ∙ lost_rows.changed t below;
    others = λ row below miss.
        subst (λ before. HasErrors (row_state start (bad + lost) (state_after y (182 * bad)) row) before (line done row))
        (lost_rows.others row (λ t here. not_hit start (bad + lost) row (bad + t) miss (omega arith))
        ∙ bad_rows.others row (λ t here. not_hit start (bad + lost) row t miss (omega arith)))
        (subst (λ (z : ℕ). HasErrors (row_state start (bad + lost) z row) (line lost_done row) (line done row)) drawn (others row below miss));
    marked = rw (sym marks_before, marks_after) marked;
  }

-- the same by the numbers that were drawn
pub hurt_drawn : (x bad lost start y : ℕ) (rows : List (List ℕ)) (marks : List (List Bool)) (done : List (List ℕ)) (hurt_marks : List (List Bool))
    → bad ≡ bad_count x → lost ≡ lost_count x → start ≡ start_row x → y ≡ state_after x 3
    → IsHurtBy bad lost start y rows marks done hurt_marks → IsHurt x rows marks done hurt_marks
hurt_drawn x bad lost start y rows marks done hurt_marks bad_is lost_is start_is y_is is = rw (sym lost_is, sym bad_is, sym start_is, sym y_is) is
