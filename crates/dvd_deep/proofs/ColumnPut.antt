-- A column that is put into its rows, one byte after the other.
use Rattle.std.proofs.Common.{◌≡◌, ◌≢◌, ◌∙◌, ℕ, ◌+◌, ◌<◌, List, [], length, get_or, set, slice_index, inl, inr, sym, ap, arith}
use Rattle.std.proofs.lemmas.Bool.{cases_eq}
use Rattle.std.proofs.lemmas.List.{get_or-set_same, get_or-set_other, length-set}
use Rattle.coding.specs.Product.{line, place}
use Rattle.dvd_deep.specs.Inner.Steps.{AreWide, IsColumnPut}

-- the first i rows have their byte at place j, and all else is as it was
pub record IsPutBefore (j : ℕ) (word : List ℕ) (old now : List (List ℕ)) (i : ℕ) : Type 0 where
  pub height : length now ≡ 208
  pub wide : AreWide now
  pub put : (k : ℕ) → k < i → place now k j ≡ slice_index word k
  pub others : (k p : ℕ) → k < 208 → p < 182 → p ≢ j → place now k p ≡ place old k p

-- a byte that is put at place j of row i is there
set-same : {X : Type 0} (rows : List (List X)) (i j : ℕ) (x d : X) → i < length rows → j < length (get_or rows i [])
    → get_or (get_or (set rows i (set (get_or rows i []) j x)) i []) j d ≡ x
set-same rows i j x d within inside =
    ap (λ row. get_or row j d) (get_or-set_same rows i (set (get_or rows i []) j x) [] within) ∙ get_or-set_same (get_or rows i []) j x d inside

-- a byte that is put at place j of a row leaves the other places of all rows
set-other : {X : Type 0} (rows : List (List X)) (i j k p : ℕ) (x d : X) → i < length rows → p ≢ j
    → get_or (get_or (set rows i (set (get_or rows i []) j x)) k []) p d ≡ get_or (get_or rows k []) p d
set-other rows i j k p x d within other = elim (cases_eq k i) [
  | inl same ↦
      ap (λ n. get_or (get_or (set rows i (set (get_or rows i []) j x)) n []) p d) same
      ∙ ap (λ row. get_or row p d) (get_or-set_same rows i (set (get_or rows i []) j x) [] within)
      ∙ get_or-set_other (get_or rows i []) j p x d other ∙ ap (λ n. get_or (get_or rows n []) p d) (sym same)
  | inr apart ↦ ap (λ row. get_or row p d) (get_or-set_other rows i k (set (get_or rows i []) j x) [] apart)
]

-- and all places of the other rows
set-elsewhere : {X : Type 0} (rows : List (List X)) (i j k p : ℕ) (x d : X) → k ≢ i
    → get_or (get_or (set rows i (set (get_or rows i []) j x)) k []) p d ≡ get_or (get_or rows k []) p d
set-elsewhere rows i j k p x d apart = ap (λ row. get_or row p d) (get_or-set_other rows i k (set (get_or rows i []) j x) [] apart)

-- one row more
pub put-next : (j : ℕ) (word : List ℕ) (old now new : List (List ℕ)) (i : ℕ) → i < 208 → j < 182 → new ≡ set now i (set (line now i) j (slice_index word i))
    → IsPutBefore j word old now i → IsPutBefore j word old new (i + 1)
put-next j word old now new i below inside new_is part =
    let within : i < length now = omega (arith, part.height) in
    let row_width : length (line now i) ≡ 182 = part.wide i below in
    record {
      height = ap length new_is ∙ length-set now i (set (line now i) j (slice_index word i)) ∙ part.height;
      put = λ k k_below. elim (cases_eq k i) [
        | inl same ↦
            ap (λ n. place new n j) same ∙ ap (λ l. place l i j) new_is ∙ set-same now i j (slice_index word i) 0 within (omega (arith, row_width))
            ∙ ap (slice_index word) (sym same)
        | inr apart ↦ ap (λ l. place l k j) new_is ∙ set-elsewhere now i j k j (slice_index word i) 0 apart ∙ part.put k (omega arith)
      ];
      wide = λ k k_below. elim (cases_eq k i) [
        | inl same ↦
            ap (λ n. length (line new n)) same ∙ ap (λ l. length (line l i)) new_is
            ∙ ap length (get_or-set_same now i (set (line now i) j (slice_index word i)) [] within) ∙ length-set (line now i) j (slice_index word i) ∙ row_width
        | inr apart ↦
            ap (λ l. length (line l k)) new_is ∙ ap length (get_or-set_other now i k (set (line now i) j (slice_index word i)) [] apart) ∙ part.wide k k_below
      ];
      others = λ k p k_below p_below apart.
          ap (λ l. place l k p) new_is ∙ set-other now i j k p (slice_index word i) 0 within apart ∙ part.others k p k_below p_below apart;
    }

-- with all 208 rows passed, column j is put
pub column-put : (j : ℕ) (word : List ℕ) (old now : List (List ℕ)) → IsPutBefore j word old now 208 → IsColumnPut j word old now
column-put j word old now part = record { here = λ i below. part.put i below; others = part.others }
