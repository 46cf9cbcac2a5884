-- Which rows are bad or lost, and from which states the single errors of the others are drawn.
use Rattle.std.proofs.Common.{◌≡◌, ◌≢◌, ◌∙◌, ◌⊎◌, ℕ, ◌+◌, ◌*◌, ◌%◌, ◌<◌, ◌≤◌, ◌==◌, Bool, true, false, nat_lt, suc, List, [], length, get_or, slice_index, bit_xor, inl, inr, refl, sym, ap, subst, arith, add-one, below_more, eq-eqb, get_or-set_other, set, zero-add}
use Rattle.std.specs.List.{range_with_len}
use Rattle.std.proofs.lemmas.Bool.Decides.{eqb_tells}
use Rattle.std.proofs.lemmas.List.Folds.{Any-from_list_any, list_any_at}
use Rattle.std.proofs.lemmas.List.FromFn.{get_or-map-range_with_len, get_or-range_with_len, length-map-range_with_len, length-range_with_len}
use Rattle.coding.specs.Product.{line}
use Rattle.dvd_exercise.specs.Damage.{HasErrors, combined, drawn_errors, is_hit, damaged_row, row_state}
use Rattle.dvd_exercise.specs.Generator.{drawn_byte, state_after}

-- turn t is that of a bad row, or of one that comes after these
abbrev pub TurnOf : ℕ → ℕ → Type 0
TurnOf bad t = ((nat_lt t bad ≡ true) × (t < bad)) ⊎ ((nat_lt t bad ≡ false) × (bad < suc t))

-- no row comes twice
pub damaged_row-new : (start n t : ℕ) → n < 208 → t < n → damaged_row start t ≢ damaged_row start n
damaged_row-new start n t below before same = omega arith

-- no two of six errors are at one place
pub place-new : (first n t : ℕ) → n < 6 → t < n → (first + 31 * t) % 182 ≢ (first + 31 * n) % 182
place-new first n t below before same = omega arith

-- a combined row has 182 bytes
pub length-combined : (y : ℕ) (row : List ℕ) → length (combined y row) ≡ 182
unfolding combined
length-combined y row = length-map-range_with_len (λ j. bit_xor (slice_index row j) (drawn_byte y j)) 0 182

-- each is that of the row, combined with the byte that is drawn for its place
pub get_or-combined : (y : ℕ) (row : List ℕ) (j : ℕ) → j < 182 → get_or (combined y row) j 0 ≡ bit_xor (slice_index row j) (drawn_byte y j)
unfolding combined
get_or-combined y row j below = get_or-map-range_with_len (λ j. bit_xor (slice_index row j) (drawn_byte y j)) 0 182 j j 0 below (zero-add j)

-- element t of the first n numbers
turn : (n t : ℕ) → t < n → get_or (range_with_len 0 n) t 0 ≡ t
turn n t below = get_or-range_with_len 0 n t 0 below ∙ zero-add t

-- the row of a turn below n is one of the first n
pub hit_at : (start n row t : ℕ) → t < n → damaged_row start t ≡ row → is_hit start n row ≡ true
unfolding is_hit
hit_at start n row t below same =
    list_any_at (λ t. damaged_row start t == row) (range_with_len 0 n) t 0 (omega (arith, length-range_with_len 0 n))
    (ap (λ (t : ℕ). damaged_row start t == row) (turn n t below) ∙ eq-eqb (damaged_row start t) row same)

-- a row that isn't hit is the row of no turn below n
pub not_hit : (start n row t : ℕ) → is_hit start n row ≡ false → t < n → damaged_row start t ≢ row
not_hit start n row t miss below same = let hit : is_hit start n row ≡ true = hit_at start n row t below same in cc

-- a row that is hit is the row of a turn below n
pub hit_turn : (start n row : ℕ) → is_hit start n row ≡ true → (t : ℕ) × (t < n) × (damaged_row start t ≡ row)
unfolding is_hit
hit_turn start n row hit =
    let some = Any-from_list_any (λ t. damaged_row start t == row) (range_with_len 0 n) hit in
    let below : some.0 < n = omega (arith, length-range_with_len 0 n, some.2) in
    let here : some.1 ≡ some.0 = sym some.3 ∙ get_or-range_with_len 0 n some.0 some.1 below ∙ zero-add some.0 in (
      some.0,
      below,
      ap (damaged_row start) (sym here) ∙ tested (eqb_tells (damaged_row start some.1) row) some.4,
    ) where
      -- numbers that pass the test of equality are equal
      tested : {a b : ℕ} {r : Bool} → ((r ≡ true) × (a ≡ b)) ⊎ ((r ≡ false) × (a ≢ b)) → r ≡ true → a ≡ b
      tested (inl is) test = is.1
      tested (inr is) test = cc

-- a row that is the row of no turn below n isn't hit
pub miss_from_none : (start n row : ℕ) → ((t : ℕ) → t < n → damaged_row start t ≢ row) → is_hit start n row ≡ false
miss_from_none start n row none = said (is_hit start n row) (λ hit. let found = hit_turn start n row hit in none found.0 found.1 found.2) where
  -- what isn't true is false
  said : (b : Bool) → (b ≡ true → ⊥) → b ≡ false
  said true never = absurd (never refl)
  said false never = refl

-- the state of the first row
pub state_first : (start n y : ℕ) → row_state start n y 0 ≡ y
unfolding row_state
state_first start n y = refl

-- nothing is drawn for a row that is hit
pub state-hit : (start n y row : ℕ) → is_hit start n row ≡ true → row_state start n y (row + 1) ≡ row_state start n y row
unfolding row_state
state-hit start n y row hit = rw (add-one, hit) refl

-- for any other row two words are drawn, and one for each error
pub state-errors : (start n y row : ℕ) → is_hit start n row ≡ false
    → row_state start n y (row + 1) ≡ state_after (row_state start n y row) (2 + drawn_errors (row_state start n y row))
unfolding row_state
state-errors start n y row miss = rw (add-one, miss) refl

-- the rows below this one have their single errors, and no other row is changed
pub record AreHurtBelow (start n y : ℕ) (before after : List (List ℕ)) (bound : ℕ) : Type 0 where
  pub errors : (row : ℕ) → row < bound → is_hit start n row ≡ false → HasErrors (row_state start n y row) (line before row) (line after row)
  pub hit : (row : ℕ) → is_hit start n row ≡ true → line after row ≡ line before row
  pub rest : (row : ℕ) → bound ≤ row → line after row ≡ line before row

-- no row yet
pub hurt_none : (start n y : ℕ) (rows : List (List ℕ)) → AreHurtBelow start n y rows rows 0
hurt_none start n y rows = record {
  errors = λ row below. absurd (omega arith);
  hit = λ row is. refl;
  rest = λ row above. refl;
}

module _ (start n y : ℕ) (before after : List (List ℕ)) (bound : ℕ) (are : AreHurtBelow start n y before after bound) where
  -- a row more that is hit
  pub hurt-hit : is_hit start n bound ≡ true → AreHurtBelow start n y before after (bound + 1)
  hurt-hit here = record {
    errors = below_more (λ row. is_hit start n row ≡ false → HasErrors (row_state start n y row) (line before row) (line after row)) bound are.errors (λ miss. absurd (cc (here, miss)));
    hit = are.hit;
    rest = λ row above. are.rest row (omega arith);
  }

  -- a row more that gets its errors
  pub hurt-errors : (next : List (List ℕ)) → is_hit start n bound ≡ false → next ≡ set after bound (line next bound)
      → HasErrors (row_state start n y bound) (line after bound) (line next bound) → AreHurtBelow start n y before next (bound + 1)
  hurt-errors next miss changed here =
      let kept = λ (row : ℕ) (other : row ≢ bound). (ap (λ (rows : List (List ℕ)). line rows row) changed ∙ get_or-set_other after bound row (line next bound) [] other) in record {
        errors = below_more (λ row. is_hit start n row ≡ false → HasErrors (row_state start n y row) (line before row) (line next row)) bound
            (λ row below is. subst (HasErrors (row_state start n y row) (line before row)) (sym (kept row (omega arith))) (are.errors row below is))
            (λ _. subst (λ row. HasErrors (row_state start n y bound) row (line next bound)) (are.rest bound (omega arith)) here);
        hit = λ row is. kept row (λ same. let hit : is_hit start n bound ≡ true = ap (is_hit start n) (sym same) ∙ is in cc) ∙ are.hit row is;
        rest = λ row above. kept row (omega arith) ∙ are.rest row (omega arith);
      }
