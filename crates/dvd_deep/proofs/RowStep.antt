-- The row step, one row after the other.
use Rattle.std.proofs.Common.{◌≡◌, ◌≢◌, ◌∙◌, ℕ, ◌+◌, ◌<◌, Bool, true, false, not, cond, List, [], length, map, get_or, set, replicate, unwrap_or, inl, inr, refl, sym, ap, arith, Some, None, is_none, is_some}
use Rattle.std.specs.List.{range_with_len}
use Rattle.std.specs.declared.option.Option.{Option}
use Rattle.std.proofs.lemmas.Bool.{cases_eq, cases_lt}
use Rattle.std.proofs.lemmas.List.{get_or-replicate, get_or-set_same, get_or-set_other, get_or_past, length-replicate}
use Rattle.std.proofs.lemmas.List.FromFn.{fill_by_all}
use Rattle.coding.specs.Nearest.{near_of}
use Rattle.coding.specs.Product.{line}
use Rattle.dvd_capture.specs.Answers.{marks_line}
use Rattle.dvd_deep.specs.Rounds.{State, failed_marks, row_near, row_step, state_in}
use Rattle.dvd_deep.specs.Inner.Steps.{IsStepped, marks_then, row_then}

-- a row fails where it isn't answered
pub not-is_some : {X : Type 0} (found : Option X) → not (is_some found) ≡ is_none found
not-is_some None = refl
not-is_some (Some x) = refl

-- the marks of a row are taken where it is answered, and stay where it isn't
taken-here : (found : Option (List ℕ)) (answered : Bool) (marks marks_new : List (List Bool)) (i : ℕ) → i < length marks → answered ≡ is_some found
    → marks_new ≡ cond answered (set marks i (replicate 182 false)) marks → marks_line marks_new i ≡ cond (is_some found) (replicate 182 false) (marks_line marks i)
taken-here None answered marks marks_new i within is made = ap (λ l. marks_line l i) (made ∙ ap (λ b. cond b (set marks i (replicate 182 false)) marks) is)
taken-here (Some word) answered marks marks_new i within is made =
    ap (λ l. marks_line l i) (made ∙ ap (λ b. cond b (set marks i (replicate 182 false)) marks) is) ∙ get_or-set_same marks i (replicate 182 false) [] within

-- the marks of the other rows stay, whether row i is answered or not
taken-there : (answered : Bool) (marks marks_new : List (List Bool)) (i k : ℕ) → k ≢ i
    → marks_new ≡ cond answered (set marks i (replicate 182 false)) marks → marks_line marks_new k ≡ marks_line marks k
taken-there false marks marks_new i k other made = ap (λ l. marks_line l k) made
taken-there true marks marks_new i k other made = ap (λ l. marks_line l k) made ∙ get_or-set_other marks i k (replicate 182 false) [] other

-- a row that isn't answered is noted
noted-here : (answered : Bool) (failed failed_new : List Bool) (i : ℕ) → i < length failed → get_or failed i false ≡ false
    → failed_new ≡ cond answered failed (set failed i true) → get_or failed_new i false ≡ not answered
noted-here false failed failed_new i within clear made = ap (λ l. get_or l i false) made ∙ get_or-set_same failed i true false within
noted-here true failed failed_new i within clear made = ap (λ l. get_or l i false) made ∙ clear

-- the flags of the other rows stay
noted-there : (answered : Bool) (failed failed_new : List Bool) (i k : ℕ) → k ≢ i → failed_new ≡ cond answered failed (set failed i true)
    → get_or failed_new k false ≡ get_or failed k false
noted-there false failed failed_new i k other made = ap (λ l. get_or l k false) made ∙ get_or-set_other failed i k true false other
noted-there true failed failed_new i k other made = ap (λ l. get_or l k false) made

-- one row more
pub stepped-next : (state : State) (rows rows_new : List (List ℕ)) (marks marks_new : List (List Bool)) (failed failed_new : List Bool) (i : ℕ) (answered : Bool)
    → i < length rows → i < length marks → i < length failed
    → answered ≡ is_some (row_near (state_in rows marks) i) → rows_new ≡ set rows i (row_then (state_in rows marks) i) → length (line rows_new i) ≡ 182
    → marks_new ≡ cond answered (set marks i (replicate 182 false)) marks → failed_new ≡ cond answered failed (set failed i true)
    → IsStepped state rows marks failed i → IsStepped state rows_new marks_new failed_new (i + 1)
stepped-next state rows rows_new marks marks_new failed failed_new i answered within marks_within failed_within is rows_are wide_here marks_are failed_are part =
    let same : row_near (state_in rows marks) i ≡ row_near state i =
    ap (λ (row : List ℕ). near_of 182 10 row (marks_line marks i)) (part.rows_left i (omega arith)) ∙ ap (near_of 182 10 (line state.rows i)) (part.marks_left i (omega arith)) in
    let then : row_then (state_in rows marks) i ≡ row_then state i =
    ap (λ (found : Option (List ℕ)). unwrap_or found (line rows i)) same ∙ ap (unwrap_or (row_near state i)) (part.rows_left i (omega arith)) in
    let marks_here : marks_line marks_new i ≡ marks_then state i =
    taken-here (row_near (state_in rows marks) i) answered marks marks_new i marks_within is marks_are
    ∙ ap (λ (found : Option (List ℕ)). cond (is_some found) (replicate 182 false) (marks_line marks i)) same
    ∙ ap (cond (is_some (row_near state i)) (replicate 182 false)) (part.marks_left i (omega arith)) in
    record {
      rows_done = λ k below. elim (cases_eq k i) [
        | inl k_is ↦
            ap (line rows_new) k_is ∙ ap (λ l. line l i) rows_are ∙ get_or-set_same rows i (row_then (state_in rows marks) i) [] within ∙ then ∙ ap (row_then state) (sym k_is)
        | inr other ↦ ap (λ l. line l k) rows_are ∙ get_or-set_other rows i k (row_then (state_in rows marks) i) [] other ∙ part.rows_done k (omega arith)
      ];
      marks_done = λ k below. elim (cases_eq k i) [
        | inl k_is ↦ ap (marks_line marks_new) k_is ∙ marks_here ∙ ap (marks_then state) (sym k_is)
        | inr other ↦ taken-there answered marks marks_new i k other marks_are ∙ part.marks_done k (omega arith)
      ];
      failed_done = λ k below. elim (cases_eq k i) [
        | inl k_is ↦
            ap (λ n. get_or failed_new n false) k_is ∙ noted-here answered failed failed_new i failed_within (part.failed_left i (omega arith)) failed_are
            ∙ ap not (is ∙ ap is_some same) ∙ not-is_some (row_near state i) ∙ ap (λ n. is_none (row_near state n)) (sym k_is)
        | inr other ↦ noted-there answered failed failed_new i k other failed_are ∙ part.failed_done k (omega arith)
      ];
      wide = λ k below. elim (cases_eq k i) [
        | inl k_is ↦ ap (λ n. length (line rows_new n)) k_is ∙ wide_here
        | inr other ↦ ap (λ l. length (line l k)) rows_are ∙ ap length (get_or-set_other rows i k (row_then (state_in rows marks) i) [] other) ∙ part.wide k (omega arith)
      ];
      rows_left = λ k from.
          let other : k ≢ i = λ equal. omega (arith, equal) in
          ap (λ l. line l k) rows_are ∙ get_or-set_other rows i k (row_then (state_in rows marks) i) [] other ∙ part.rows_left k (omega arith);
      marks_left = λ k from.
          let other : k ≢ i = λ equal. omega (arith, equal) in
          taken-there answered marks marks_new i k other marks_are ∙ part.marks_left k (omega arith);
      failed_left = λ k from.
          let other : k ≢ i = λ equal. omega (arith, equal) in
          noted-there answered failed failed_new i k other failed_are ∙ part.failed_left k (omega arith);
    }

-- where nothing is set no flag is
never : (k : ℕ) → get_or (replicate 208 false) k false ≡ false
never k = elim (cases_lt k 208) [
  | inl below ↦ get_or-replicate 208 k false false below
  | inr past ↦ get_or_past (replicate 208 false) k false (omega (arith, length-replicate 208 false))
]

-- no row has had its step
pub none-stepped : (rows : List (List ℕ)) (marks : List (List Bool)) (failed : List Bool) → failed ≡ replicate 208 false → IsStepped (state_in rows marks) rows marks failed 0
none-stepped rows marks failed clear = record {
  rows_done = λ k below. absurd (omega arith);
  marks_done = λ k below. absurd (omega arith);
  failed_done = λ k below. absurd (omega arith);
  wide = λ k below. absurd (omega arith);
  rows_left = λ k from. refl;
  marks_left = λ k from. refl;
  failed_left = λ k from. ap (λ l. get_or l k false) clear ∙ never k;
}

-- all rows
pub stepped-all : (state : State) (rows : List (List ℕ)) (marks : List (List Bool)) (failed : List Bool) → length rows ≡ 208 → length marks ≡ 208 → length failed ≡ 208
    → IsStepped state rows marks failed 208 → (state_in rows marks ≡ row_step state) × (failed ≡ failed_marks state)
unfolding row_step failed_marks
stepped-all state rows marks failed height marks_height size part =
    let rows_are : rows ≡ map (row_then state) (range_with_len 0 208) = fill_by_all (row_then state) rows 208 [] height part.rows_done in
    let marks_are : marks ≡ map (marks_then state) (range_with_len 0 208) = fill_by_all (marks_then state) marks 208 [] marks_height part.marks_done in (
      ap (λ l. state_in l marks) rows_are ∙ ap (state_in (map (row_then state) (range_with_len 0 208))) marks_are,
      fill_by_all (λ i. is_none (row_near state i)) failed 208 false size part.failed_done,
    )

-- ---- the rows of a received block, one after the other

-- one more element is copied
pub copied-next : {X : Type 0} (xs ys : List X) (i : ℕ) (x d : X) → i < length xs → x ≡ get_or ys i d → ((k : ℕ) → k < i → get_or xs k d ≡ get_or ys k d)
    → (k : ℕ) → k < i + 1 → get_or (set xs i x) k d ≡ get_or ys k d
copied-next xs ys i x d within is before k below = elim (cases_eq k i) [
  | inl same ↦ ap (λ n. get_or (set xs i x) n d) same ∙ get_or-set_same xs i x d within ∙ is ∙ ap (λ n. get_or ys n d) (sym same)
  | inr other ↦ get_or-set_other xs i k x d other ∙ before k (omega arith)
]
