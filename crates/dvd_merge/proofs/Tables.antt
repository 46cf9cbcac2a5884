-- Two planes of bytes as a table of places.
use Rattle.std.proofs.Common.{◌≡◌, ◌≢◌, ℕ, zero, suc, ◌+◌, ◌<◌, ◌≤◌, Bool, List, [], ◌∷◌, length, get_or, set, replicate, inl, inr, refl, sym, ◌∙◌, ap, arith}
use Rattle.std.specs.Simd.Lanes.{zip2}
use Rattle.std.proofs.lemmas.Bool.{cases_lt}
use Rattle.std.proofs.lemmas.List.{get_or-set_other, get_or-set_same}
use Rattle.std.proofs.lemmas.Simd.{length-zip2}
use Rattle.coding.specs.Product.{line}
use Rattle.dvd_capture.specs.Answers.{marks_line}
use Rattle.dvd_merge.specs.Join.{Table, join_rows, known_at, known_row, seen_row, unseen}
use Rattle.dvd_merge.specs.Planes.{place_from, row_of, table_of_planes}
use Rattle.dvd_merge.specs.declared.place.Place.{Place}
use Rattle.dvd_merge.specs.declared.place.Place.TheVariants.{Unseen}
use Rattle.dvd_merge.proofs.Lattice.{zip2-row}
use Rattle.dvd_merge.proofs.Rows.{row-place}

-- both lists get an element at the same place
zip2-set : {A B C : Type 0} (f : A → B → C) (xs : List A) (ys : List B) (i : ℕ) (x : A) (y : B) → zip2 f (set xs i x) (set ys i y) ≡ set (zip2 f xs ys) i (f x y)
zip2-set f [] ys i x y = refl
zip2-set f (a ∷ xs) [] zero x y = refl
zip2-set f (a ∷ xs) [] (suc i) x y = refl
zip2-set f (a ∷ xs) (b ∷ ys) zero x y = refl
zip2-set f (a ∷ xs) (b ∷ ys) (suc i) x y = ap (λ l. f a b ∷ l) (zip2-set f xs ys i x y)

-- both lists have one element many times
zip2-replicate : {A B C : Type 0} (f : A → B → C) (n : ℕ) (x : A) (y : B) → zip2 f (replicate n x) (replicate n y) ≡ replicate n (f x y)
zip2-replicate f zero x y = refl
zip2-replicate f (suc n) x y = ap (λ l. f x y ∷ l) (zip2-replicate f n x y)

-- a table has as many rows as its planes
pub length-table : (values codes : List (List ℕ)) (n : ℕ) → length values ≡ n → length codes ≡ n → length (table_of_planes values codes) ≡ n
length-table values codes n high same = length-zip2 row_of values codes (high ∙ sym same) ∙ high

-- planes of zeros have seen nothing
pub zeros-unseen : (values codes : List (List ℕ)) → values ≡ replicate 208 (replicate 182 0) → codes ≡ replicate 208 (replicate 182 0)
    → table_of_planes values codes ≡ unseen
unfolding unseen
zeros-unseen values codes values_are codes_are =
    (λ i. table_of_planes (values_are i) (codes_are i))
    ∙ zip2-replicate row_of 208 (replicate 182 0) (replicate 182 0)
    ∙ ap (λ (row : List Place). replicate 208 row) (zip2-replicate place_from 182 0 0)

module _ (values codes : List (List ℕ)) (i : ℕ) where
  -- a row of a table is that of its planes
  pub row-planes : known_row (table_of_planes values codes) i ≡ row_of (line values i) (line codes i)
  row-planes = zip2-row place_from values codes i

  -- and so is a place
  pub place-planes : (j : ℕ) → j < length (line values i) → j < length (line codes i)
      → known_at (table_of_planes values codes) i j ≡ place_from (get_or (line values i) j 0) (get_or (line codes i) j 0)
  place-planes j in_values in_codes =
      ap (λ (row : List Place). get_or row j Unseen) row-planes ∙ row-place (line values i) (line codes i) j in_values in_codes

  -- a row of both planes is set
  pub row-set : (v c : List ℕ) (row : List Place) → row_of v c ≡ row → table_of_planes (set values i v) (set codes i c) ≡ set (table_of_planes values codes) i row
  row-set v c row is = zip2-set row_of values codes i v c ∙ ap (set (table_of_planes values codes) i) is

  -- a place of both planes is set
  pub place-set : (v c : List ℕ) (j b k : ℕ) (p : Place) → v ≡ line values i → c ≡ line codes i → place_from b k ≡ p
      → table_of_planes (set values i (set v j b)) (set codes i (set c j k)) ≡ set (table_of_planes values codes) i (set (known_row (table_of_planes values codes) i) j p)
  place-set v c j b k p v_is c_is is =
      row-set (set v j b) (set c j k) (set (known_row (table_of_planes values codes) i) j p)
      (zip2-set place_from v c j b k ∙ (λ n. set (row_of (v_is n) (c_is n)) j (is n)) ∙ (λ n. set (sym row-planes n) j p))

-- the rows of a table below i are joined to those of a capture, and the others are as they were
pub record AreTaken (old now : Table) (rows : List (List ℕ)) (marks : List (List Bool)) (i : ℕ) : Type 0 where
  pub height : length now ≡ 208
  pub taken : (q : ℕ) → q < i → known_row now q ≡ join_rows (known_row old q) (seen_row (line rows q) (marks_line marks q))
  pub rest : (q : ℕ) → i ≤ q → known_row now q ≡ known_row old q

-- one row more
pub more-taken : (old before now : Table) (rows : List (List ℕ)) (marks : List (List Bool)) (i : ℕ) → i < 208 → AreTaken old before rows marks i
    → length now ≡ 208 → now ≡ set before i (join_rows (known_row before i) (seen_row (line rows i) (marks_line marks i)))
    → AreTaken old now rows marks (i + 1)
more-taken old before now rows marks i below are height is = record {
  height = height;
  taken = λ q under. elim (cases_lt q i) [
    | inl low ↦ other q (λ e. omega (arith, low, e)) ∙ are.taken q low
    | inr high ↦ (let last : i ≡ q = omega (arith, high, under) in
        ap (known_row now) (sym last) ∙ here ∙ ap (λ k. join_rows (known_row old k) (seen_row (line rows k) (marks_line marks k))) last)
  ];
  rest = λ q over. other q (λ e. omega (arith, over, e)) ∙ are.rest q (omega (arith, over));
}
  where
    row : List Place
    row = join_rows (known_row before i) (seen_row (line rows i) (marks_line marks i))

    other : (q : ℕ) → q ≢ i → known_row now q ≡ known_row before q
    other q apart = ap (λ t. known_row t q) is ∙ get_or-set_other before i q row [] apart

    here : known_row now i ≡ join_rows (known_row old i) (seen_row (line rows i) (marks_line marks i))
    here =
        ap (λ t. known_row t i) is ∙ get_or-set_same before i row [] (omega (arith, below, are.height))
        ∙ ap (λ (r : List Place). join_rows r (seen_row (line rows i) (marks_line marks i))) (are.rest i (omega arith))
