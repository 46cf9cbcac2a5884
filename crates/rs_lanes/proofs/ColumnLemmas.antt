-- Columns of rows and of vectors: get_or-column, same_columns, what holds of a group of 32 more (group_more), and the
-- row that a lane of vectors by places is (turned_row).
use Rattle.std.proofs.Common.{◌≡◌, ℕ, ◌+◌, ◌-◌, ◌<◌, List, [], length, get_or, sym, subst, ◌∙◌, inl, inr, arith}
use Rattle.std.proofs.Math.ListN.{get_or-map}
use Rattle.std.proofs.lemmas.List.{length-map}
use Rattle.std.proofs.lemmas.Bool.{cases_lt}
use Rattle.std.proofs.lemmas.Grind.{same_number_lists}
use Rattle.coding.specs.Rows.{place, column}

-- a column has as many bytes as there are rows
pub length-column : (rows : List (List ℕ)) (j : ℕ) → length (column rows j) ≡ length rows
length-column rows j = length-map rows (λ row. get_or row j 0)

-- byte i of column j is byte j of row i
pub get_or-column : (rows : List (List ℕ)) (j i : ℕ) → get_or (column rows j) i 0 ≡ place rows i j
get_or-column rows j i = get_or-map (λ row. get_or row j 0) rows i []

-- columns that agree at each place are equal
pub same_columns : (a b : List (List ℕ)) (i j : ℕ) → length a ≡ length b → ((k : ℕ) → k < length a → place a k i ≡ place b k j) → column a i ≡ column b j
same_columns a b i j size same =
    same_number_lists (column a i) (column b j) (length-column a i ∙ size ∙ sym (length-column b j))
    (λ k below. get_or-column a i k ∙ same k (omega (arith, length-column a i)) ∙ sym (get_or-column b j k))

-- what holds below a number, and of the 32 from it on, holds of all these
pub group_more : (P : ℕ → Type 0) (at : ℕ) → ((j : ℕ) → j < at → P j) → ((j : ℕ) → j < 32 → P (at + j)) → (j : ℕ) → j < at + 32 → P j
group_more P at before more j below =
    elim (cases_lt j at) [
      | inl under ↦ before j under
      | inr over ↦
          let whole : at + (j - at) ≡ j = omega arith in
          subst P whole (more (j - at) (omega arith))
    ]

-- lane n of vectors by places is the row whose places they have
pub transposed_row : (transposed : List (List ℕ)) (n : ℕ) (row : List ℕ) → length transposed ≡ 182 → length row ≡ 182
    → ((k : ℕ) → k < 182 → place transposed k n ≡ get_or row k 0)
    → column transposed n ≡ row
transposed_row transposed n row many size same =
    same_number_lists (column transposed n) row (length-column transposed n ∙ many ∙ sym size)
    (λ k below. get_or-column transposed n k ∙ same k (omega (arith, length-column transposed n)))
