-- The damage stays within the bound of two-pass decoding.
use Rattle.std.proofs.Common.{◌≡◌, ◌≢◌, ◌⊎◌, ◌∙◌, ℕ, zero, suc, ◌+◌, ◌-◌, ◌*◌, ◌<◌, ◌≤◌, ◌==◌, Bool, true, false, nat_lt, if◌then◌else◌, List, [], ◌∷◌, length, get_or, replicate, slice_index, inl, inr, min, refl, sym, ap, subst, arith}
use Rattle.std.proofs.lemmas.Bool.Decides.{eqb_tells, leb_tells, nat_tests}
use Rattle.std.proofs.lemmas.List.{get_or-replicate}
use Rattle.coding.specs.Words.{cost}
use Rattle.coding.specs.Filling.{marked}
use Rattle.coding.specs.Within.{IsWithin, block_weight, row_weight}
use Rattle.dvd_exercise.specs.Damage.{HasErrors, IsHurt, IsHurtBy, bad_count, drawn_errors, error_place, lost_count, damaged_row, row_state, start_row}
use Rattle.dvd_exercise.specs.Generator.{state_after}
use Rattle.dvd_exercise.specs.Laws.{HurtIsWithin}
use Rattle.dvd_exercise.proofs.Burdens.{burden-at, burdens, Find, find_place, length-burdens, sum_below, total, total-burdens}
use Rattle.dvd_exercise.proofs.Rows.{TurnOf, miss_from_none}

-- a word costs no more than what is said of its differing places
cost-total : (word row xs : List ℕ) (n : ℕ) → length xs ≡ length word → ((k : ℕ) → k < length word → slice_index word k ≢ slice_index row k → 2 ≤ get_or xs k 0)
    → cost word row (replicate n false) ≤ total xs
unfolding cost total
cost-total [] row xs n size each = omega arith
cost-total (a ∷ word) row [] n size each = absurd (omega arith)
cost-total (a ∷ word) [] (x ∷ xs) n size each = omega arith
cost-total (a ∷ word) (b ∷ row) (x ∷ xs) zero size each = omega arith
cost-total (a ∷ word) (b ∷ row) (x ∷ xs) (suc n) size each =
    let rest : cost word row (replicate n false) ≤ total xs = cost-total word row xs n (omega arith) (λ k below. each (suc k) (omega arith)) in
    here (eqb_tells a b) rest where
      -- by whether the first bytes are equal
      here : (((a == b) ≡ true) × (a ≡ b)) ⊎ (((a == b) ≡ false) × (a ≢ b)) → cost word row (replicate n false) ≤ total xs
          → (if a == b then 0 else 2) + cost word row (replicate n false) ≤ x + total xs
      here (inl same) rest = rw same.0 (omega arith)
      here (inr other) rest = rw other.0 (let first : 2 ≤ x = each 0 (omega arith) other.1 in omega arith)

-- each of n errors weighs two
sum_below-two : (n : ℕ) → sum_below (λ _. 2) n ≡ 2 * n
unfolding sum_below
sum_below-two zero = refl
sum_below-two (suc n) = omega (arith, sum_below-two n)

-- single errors cost two each
errors-cost : (y : ℕ) (before after : List ℕ) → HasErrors y before after → cost before after (replicate 182 false) ≤ 10
errors-cost y before after has =
    let n : ℕ = drawn_errors y in
    let size : ℕ = length before in
    let marks = burdens (error_place y) (λ _. 2) size n in
    let most : cost before after (replicate 182 false) ≤ total marks =
    cost-total before after marks 182 (length-burdens (error_place y) (λ _. 2) size n)
    (λ k below other. by_place k below other (find_place (error_place y) k n)) in
    omega (arith, total-burdens (error_place y) (λ _. 2) size n, sum_below-two n) where
      -- by whether the place is that of an error
      by_place : (k : ℕ) → k < length before → slice_index before k ≢ slice_index after k
          → Find (error_place y) k (drawn_errors y)
          → 2 ≤ get_or (burdens (error_place y) (λ _. 2) (length before) (drawn_errors y)) k 0
      by_place k below other (inl found) =
          subst (λ (k : ℕ). 2 ≤ get_or (burdens (error_place y) (λ _. 2) (length before) (drawn_errors y)) k 0) found.2
          (burden-at (error_place y) (λ _. 2) (length before) (drawn_errors y) found.0 found.1 (omega (arith, found.2)))
      by_place k below other (inr none) = absurd (other (sym (has.others k none)))

-- a block weighs no more than what is said of its rows
weight-total : (block rows : List (List ℕ)) (marks : List (List Bool)) (xs : List ℕ) → length xs ≡ length block
    → ((k : ℕ) → k < length block → row_weight (get_or block k []) (get_or rows k []) (get_or marks k []) ≤ get_or xs k 0) → block_weight block rows marks ≤ total xs
unfolding block_weight total
weight-total [] rows marks xs size each = omega arith
weight-total (word ∷ block) [] marks xs size each = omega arith
weight-total (word ∷ block) (row ∷ rows) [] xs size each = omega arith
weight-total (word ∷ block) (row ∷ rows) (mark ∷ marks) [] size each = absurd (omega arith)
weight-total (word ∷ block) (row ∷ rows) (mark ∷ marks) (x ∷ xs) size each =
    let first : row_weight word row mark ≤ x = each 0 (omega arith) in
    omega (arith, weight-total block rows marks xs (omega arith) (λ k below. each (suc k) (omega arith)))

-- what a row weighs at most
any-weight : (word row : List ℕ) (marks : List Bool) → row_weight word row marks ≤ 2
any-weight word row marks = grind (arith, nat_tests)

-- a lost row one at most
lost-weight : (word row : List ℕ) → row_weight word row (replicate 182 true) ≤ 1
unfolding marked
lost-weight word row = grind (arith, nat_tests)

-- and a good row nothing
good-weight : (word row : List ℕ) (marks : List Bool) → cost word row marks ≤ 10 → row_weight word row marks ≡ 0
good-weight word row marks cheap = grind (arith, nat_tests)

-- what the row of turn t weighs at most: two where it is bad, and one where it is lost
abbrev turn_weight : ℕ → ℕ → ℕ
turn_weight bad t = if nat_lt t bad then 2 else 1

-- so the first n turns weigh one each, and the bad ones among them one more
sum_below-turns : (bad n : ℕ) → sum_below (turn_weight bad) n ≤ n + min n bad
unfolding sum_below
sum_below-turns bad zero = omega arith
sum_below-turns bad (suc n) = next (leb_tells (suc n) bad) (sum_below-turns bad n) where
  -- by whether turn n is that of a bad row
  next : TurnOf bad n → sum_below (turn_weight bad) n ≤ n + min n bad
      → sum_below (turn_weight bad) n + turn_weight bad n ≤ suc n + min (suc n) bad
  next (inl is) before = rw is.0 (omega arith)
  next (inr is) before = rw is.0 (omega arith)

-- a block that had no marks
module _ (bad lost start y : ℕ) (rows : List (List ℕ)) (done : List (List ℕ)) (hurt_marks : List (List Bool))
    (is : IsHurtBy bad lost start y rows (replicate 208 (replicate 182 false)) done hurt_marks) where
  -- the marks of a lost row are all set
  marks_lost : (t : ℕ) → bad ≤ t → t < bad + lost → get_or hurt_marks (damaged_row start t) [] ≡ replicate 182 true
  marks_lost t above below =
      let same : bad + (t - bad) ≡ t = omega arith in
      ap (λ (t : ℕ). get_or hurt_marks (damaged_row start t) []) (sym same) ∙ is.marked.changed (t - bad) (omega arith)

  -- those of any other row stay
  marks_kept : (k : ℕ) → k < 208 → ((t : ℕ) → t < bad + lost → damaged_row start t ≢ k) → get_or hurt_marks k [] ≡ replicate 182 false
  marks_kept k below none = is.marked.others k (λ t here. none (bad + t) (omega arith)) ∙ get_or-replicate 208 k (replicate 182 false) [] below

  -- a row weighs no more than its turn
  turn_bound : (t : ℕ) → t < bad + lost → row_weight (get_or rows (damaged_row start t) []) (get_or done (damaged_row start t) []) (get_or hurt_marks (damaged_row start t) []) ≤ turn_weight bad t
  turn_bound t below = by_turn (leb_tells (suc t) bad) where
    -- by whether the turn is that of a bad row
    by_turn : TurnOf bad t
        → row_weight (get_or rows (damaged_row start t) []) (get_or done (damaged_row start t) []) (get_or hurt_marks (damaged_row start t) []) ≤ turn_weight bad t
    by_turn (inl early) = rw early.0 (any-weight (get_or rows (damaged_row start t) []) (get_or done (damaged_row start t) []) (get_or hurt_marks (damaged_row start t) []))
    by_turn (inr late) = rw (late.0, marks_lost t (omega (arith, late.1)) below) (lost-weight (get_or rows (damaged_row start t) []) (get_or done (damaged_row start t) []))

  -- and each row no more than the turns that have it, if any
  row_bound : (k : ℕ) → k < 208 → row_weight (get_or rows k []) (get_or done k []) (get_or hurt_marks k []) ≤ get_or (burdens (damaged_row start) (turn_weight bad) 208 (bad + lost)) k 0
  row_bound k below = by_row (find_place (damaged_row start) k (bad + lost)) where
    -- by whether a turn has the row
    by_row : Find (damaged_row start) k (bad + lost)
        → row_weight (get_or rows k []) (get_or done k []) (get_or hurt_marks k []) ≤ get_or (burdens (damaged_row start) (turn_weight bad) 208 (bad + lost)) k 0
    by_row (inl found) =
        subst (λ (k : ℕ). row_weight (get_or rows k []) (get_or done k []) (get_or hurt_marks k []) ≤ get_or (burdens (damaged_row start) (turn_weight bad) 208 (bad + lost)) k 0) found.2
        (omega (arith, turn_bound found.0 found.1, burden-at (damaged_row start) (turn_weight bad) 208 (bad + lost) found.0 found.1 (omega arith)))
    by_row (inr none) =
        let cheap : cost (get_or rows k []) (get_or done k []) (replicate 182 false) ≤ 10 =
        errors-cost (row_state start (bad + lost) (state_after y (182 * bad)) k) (get_or rows k []) (get_or done k []) (is.others k below (miss_from_none start (bad + lost) k none)) in
        rw (marks_kept k below none) (omega (arith, good-weight (get_or rows k []) (get_or done k []) (replicate 182 false) cheap))

  -- so the block weighs no more than its turns
  hurt_by_within : length rows ≡ 208 → 2 * bad + lost ≤ 16 → IsWithin rows done hurt_marks
  hurt_by_within height few =
      let weights = burdens (damaged_row start) (turn_weight bad) 208 (bad + lost) in
      let most : block_weight rows done hurt_marks ≤ total weights =
      weight-total rows done hurt_marks weights (length-burdens (damaged_row start) (turn_weight bad) 208 (bad + lost) ∙ sym height) (λ k below. row_bound k (omega arith)) in
      omega (arith, total-burdens (damaged_row start) (turn_weight bad) 208 (bad + lost), sum_below-turns bad (bad + lost))

-- whatever is drawn, the block is within the bound: at most 8 rows are bad, and the lost ones leave room for them
pub hurt_within : HurtIsWithin
hurt_within x rows marks done hurt_marks height unmarked is =
    let kept = subst (λ (marks : List (List Bool)). IsHurt x rows marks done hurt_marks) unmarked is in
    hurt_by_within (bad_count x) (lost_count x) (start_row x) (state_after x 3) rows done hurt_marks kept height (omega arith)
