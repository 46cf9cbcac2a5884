-- Every block can be hurt from every state.
use Rattle.std.proofs.Common.{◌≡◌, ◌≢◌, ◌⊎◌, ◌∙◌, ℕ, zero, suc, ◌+◌, ◌-◌, ◌*◌, ◌%◌, ◌<◌, ◌≤◌, Bool, true, false, List, [], length, map, set, replicate, inl, inr, refl, sym, ap, subst, arith, add-one, bit_xor, slice_index}
use Rattle.std.specs.List.{range_with_len}
use Rattle.std.proofs.Math.Nat.{mod-lt}
use Rattle.std.proofs.lemmas.Bool.{cases_lt}
use Rattle.std.proofs.lemmas.Bool.Decides.{leb_tells}
use Rattle.std.proofs.lemmas.List.FromFn.{get_or-map-range_with_len, length-map-range_with_len}
use Rattle.coding.specs.Product.{line}
use Rattle.dvd_exercise.specs.Damage.{HasErrors, IsChanged, IsHurtBy, bad_count, combined, error_byte, drawn_errors, error_place, is_hit, lost_count, damaged_row, row_state, start_row}
use Rattle.dvd_exercise.specs.Generator.{state_after}
use Rattle.dvd_exercise.specs.Laws.{SomethingIsHurt}
use Rattle.dvd_exercise.proofs.Burdens.{Find, find_place}
use Rattle.dvd_exercise.proofs.Changed.{changed_more, changed_none}
use Rattle.dvd_exercise.proofs.Rows.{TurnOf, not_hit, place-new, damaged_row-new}

-- values can be set at places that come once
some_changed : {X : Type 0} (none : X) (n : ℕ) (place : ℕ → ℕ) (value : ℕ → X) (before : List X)
    → ((m t : ℕ) → m < n → t < m → place t ≢ place m) → ((t : ℕ) → t < n → place t < length before)
    → (after : List X) × IsChanged none n place value before after
some_changed none zero place value before once inside = (before, changed_none none place value before)
some_changed none (suc n) place value before once inside =
    let first = some_changed none n place value before (λ m t below earlier. once m t (omega arith) earlier) (λ t below. inside t (omega arith)) in
    let after = set first.0 (place n) (value n) in (
      after,
      subst (λ (m : ℕ). IsChanged none m place value before after) (add-one n)
          (changed_more none n place value before first.0 (λ t below. once n t (omega arith) below) first.1 (value n) (inside n (omega arith)) refl),
    )

-- so any row of 182 bytes can get its single errors
some_errors : (y : ℕ) (row : List ℕ) → length row ≡ 182 → (after : List ℕ) × HasErrors y row after
some_errors y row width =
    some_changed 0 (drawn_errors y) (error_place y) (λ u. bit_xor (slice_index row (error_place y u)) (error_byte y u)) row
    (λ m t below earlier. place-new (state_after y 2 % 182) m t (omega arith) earlier)
    (λ t below. omega (arith, width))

-- the turn of a row is one
same_turn : (start s t : ℕ) → s < 208 → t < 208 → damaged_row start s ≡ damaged_row start t → s ≡ t
same_turn start s t first second same = elim (cases_lt s t) [
  | inl earlier ↦ absurd (damaged_row-new start t s second earlier same)
  | inr later ↦ elim (cases_lt t s) [
    | inl before ↦ absurd (damaged_row-new start s t first before (sym same))
    | inr no_later ↦ omega (arith, later, no_later)
  ]
]

module _ (bad lost start y : ℕ) (few : bad + lost < 208) (rows : List (List ℕ)) (marks : List (List Bool)) (height : length rows ≡ 208) (marks_height : length marks ≡ 208)
    (widths : (k : ℕ) → k < 208 → length (line rows k) ≡ 182) where
  -- row k with the single errors that a row gets which is neither bad nor lost
  abbrev errors : (k : ℕ) → k < 208 → (row : List ℕ) × HasErrors (row_state start (bad + lost) (state_after y (182 * bad)) k) (line rows k) row
  errors k below = some_errors (row_state start (bad + lost) (state_after y (182 * bad)) k) (line rows k) (widths k below)

  -- the row of a turn, which is bad or lost
  abbrev turn_row : (t : ℕ) → TurnOf bad t → List ℕ
  turn_row t (inl early) = combined (state_after y (182 * t)) (line rows (damaged_row start t))
  turn_row t (inr late) = replicate 182 0

  -- the row of turn t as it is hurt: bad in the first turns, and lost in the others
  abbrev hit_row : ℕ → List ℕ
  hit_row t = turn_row t (leb_tells (suc t) bad)

  -- in a turn of a bad row all its bytes are combined with drawn ones
  bad_row : (t : ℕ) → t < bad → hit_row t ≡ combined (state_after y (182 * t)) (line rows (damaged_row start t))
  bad_row t below = by_turn (leb_tells (suc t) bad) where
    -- by whether the turn is that of a bad row
    by_turn : (turn : TurnOf bad t)
        → turn_row t turn ≡ combined (state_after y (182 * t)) (line rows (damaged_row start t))
    by_turn (inl early) = refl
    by_turn (inr late) = absurd (omega (arith, late.1))

  -- in a turn of a lost row it is zeros
  lost_row : (t : ℕ) → bad ≤ t → hit_row t ≡ replicate 182 0
  lost_row t past = by_turn (leb_tells (suc t) bad) where
    -- by whether the turn is that of a bad row
    by_turn : (turn : TurnOf bad t) → turn_row t turn ≡ replicate 182 0
    by_turn (inl early) = absurd (omega (arith, early.1))
    by_turn (inr late) = refl

  -- row k as it is hurt, by the turn that has it, or else with its single errors
  abbrev row_for : (k : ℕ) → ((k < 208) ⊎ (208 ≤ k)) → Find (damaged_row start) k (bad + lost) → List ℕ
  row_for k inside (inl found) = hit_row found.0
  row_for k (inl below) (inr none) = (errors k below).0
  row_for k (inr past) (inr none) = []

  -- where the turn of row k is t, it is the row of this turn
  row_hit : (k : ℕ) (inside : (k < 208) ⊎ (208 ≤ k)) (find : Find (damaged_row start) k (bad + lost)) (t : ℕ) → t < bad + lost → damaged_row start t ≡ k
      → row_for k inside find ≡ hit_row t
  row_hit k inside (inl found) t below same = ap hit_row (same_turn start found.0 t (omega (arith, found.1)) (omega arith) (found.2 ∙ sym same))
  row_hit k (inl lt) (inr none) t below same = absurd (none t below same)
  row_hit k (inr past) (inr none) t below same = absurd (none t below same)

  -- where no turn has row k, it has its single errors alone
  row_errors : (k : ℕ) (inside : (k < 208) ⊎ (208 ≤ k)) (find : Find (damaged_row start) k (bad + lost)) → k < 208 → is_hit start (bad + lost) k ≡ false
      → HasErrors (row_state start (bad + lost) (state_after y (182 * bad)) k) (line rows k) (row_for k inside find)
  row_errors k inside (inl found) below miss = absurd (not_hit start (bad + lost) k found.0 miss found.1 found.2)
  row_errors k (inl lt) (inr none) below miss = (errors k lt).1
  row_errors k (inr past) (inr none) below miss = absurd (omega (arith, past))

  -- the same by the turn that is found
  abbrev row_at : ℕ → List ℕ
  row_at k = row_for k (cases_lt k 208) (find_place (damaged_row start) k (bad + lost))

  -- the 208 rows as they are hurt
  abbrev done : List (List ℕ)
  done = map row_at (range_with_len 0 208)

  -- row k of these is row k as it is hurt
  line_done : (k : ℕ) → k < 208 → line done k ≡ row_at k
  line_done k below = get_or-map-range_with_len row_at 0 208 k k [] below (omega arith)

  -- the row that turn t hits is the row of this turn
  line_hit : (t : ℕ) → t < bad + lost → line done (damaged_row start t) ≡ hit_row t
  line_hit t below =
      line_done (damaged_row start t) (omega arith)
      ∙ row_hit (damaged_row start t) (cases_lt (damaged_row start t) 208) (find_place (damaged_row start) (damaged_row start t) (bad + lost)) t below refl

  -- the marks of the lost rows are all set, and the others are as they were
  abbrev some_marks : (after : List (List Bool)) × IsChanged [] lost (λ t. damaged_row start (bad + t)) (λ t. replicate 182 true) marks after
  some_marks =
      some_changed [] lost (λ t. damaged_row start (bad + t)) (λ t. replicate 182 true) marks
      (λ m t below earlier. damaged_row-new start (bad + m) (bad + t) (omega arith) (omega arith))
      (λ t below. omega (arith, marks_height))

  -- so the block is hurt by so many bad rows and lost rows, and by single errors in the others
  hurt_by_some : (hurt_rows : List (List ℕ)) × (hurt_marks : List (List Bool)) × IsHurtBy bad lost start y rows marks hurt_rows hurt_marks
  hurt_by_some = (
    done,
    some_marks.0,
    record {
      height = length-map-range_with_len row_at 0 208 ∙ sym height;
      bad_rows = λ t below. line_hit t (omega arith) ∙ bad_row t below;
      lost_rows = λ t below. line_hit (bad + t) (omega arith) ∙ lost_row (bad + t) (omega arith);
      others = λ row below miss.
          subst (HasErrors (row_state start (bad + lost) (state_after y (182 * bad)) row) (line rows row)) (sym (line_done row below))
          (row_errors row (cases_lt row 208) (find_place (damaged_row start) row (bad + lost)) below miss);
      marked = some_marks.1;
    },
  )

-- so every block can be hurt, whatever is drawn
pub some_hurt : SomethingIsHurt
some_hurt x rows marks height marks_height widths =
    let bad : bad_count x < 9 = mod-lt (state_after x 1) (omega arith) in
    let lost : lost_count x < 17 - 2 * bad_count x = mod-lt (state_after x 2) (omega (arith, bad)) in
    hurt_by_some (bad_count x) (lost_count x) (start_row x) (state_after x 3) (omega (arith, bad, lost)) rows marks height marks_height
    (λ k below. widths k [] (omega (arith, height)))
