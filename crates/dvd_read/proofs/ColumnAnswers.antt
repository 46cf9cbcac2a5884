-- The columns of the rows' answers, and the rows of the columns' words.
use Rattle.std.proofs.Common.{◌≡◌, ◌∙◌, ℕ, ◌+◌, ◌-◌, ◌<◌, Bool, true, false, not, List, [], length, map, get_or, position, slice_index, All, inl, inr, refl, sym, ap, subst, arith, Some, None}
use Rattle.std.specs.Prelude.{◌↔◌, IsTrue}
use Rattle.std.specs.declared.option.Option.{Option}
use Rattle.std.proofs.lemmas.Bool.{cases_lt}
use Rattle.std.proofs.lemmas.List.{get_or-map, length-map}
use Rattle.std.proofs.lemmas.Grind.{same_number_lists}
use Rattle.coding.specs.Words.{IsByte, IsCodeword}
use Rattle.coding.specs.Nearest.{vanishes_at_all}
use Rattle.rs_decode.proofs.NearSearch.{codeword-vanishes, vanishing-codeword}
use Rattle.coding.specs.Product.{line}
use Rattle.coding.specs.TwoPass.{column_answer, from_columns}
use Rattle.dvd_capture.specs.declared.parts.ColumnAnswer.{ColumnAnswer}
use Rattle.dvd_capture.proofs.Columns.{from_columns-line}
use Rattle.dvd_read.specs.Parts.{AreColumnsFrom, column_word}
use Rattle.dvd_read.specs.Inner.Found.{words_of_columns}
use Rattle.dvd_read.proofs.Positions.{first_passes, none_passes}

-- a column that isn't there
abbrev pub blank_column : ColumnAnswer
blank_column = record { bytes = []; answered = false }

-- these columns are what the second pass answers
abbrev pub AreColumns : List (Option (List ℕ)) → List ColumnAnswer → Type 0
AreColumns answers columns = (j : ℕ) (d : ColumnAnswer) → j < 182 → column_word (get_or columns j d) ≡ column_answer answers j

-- the bytes of a row of the columns' words before place j
abbrev pub IsRowBefore : List ColumnAnswer → ℕ → List ℕ → ℕ → Type 0
IsRowBefore columns i row j = (k : ℕ) (d : ColumnAnswer) → k < j → get_or row k 0 ≡ slice_index (get_or columns k d).bytes i

-- once all places are read, it is the row of the columns' words
pub row_read : (columns : List ColumnAnswer) (i : ℕ) (row : List ℕ) → i < 208 → length columns ≡ 182 → length row ≡ 182 → IsRowBefore columns i row 182
    → row ≡ line (from_columns (words_of_columns columns)) i
row_read columns i row below size row_size read =
    let bytes : ColumnAnswer → List ℕ = λ column. column.bytes in
    same_number_lists row (map (λ word. slice_index word i) (words_of_columns columns))
    (row_size ∙ sym (length-map (words_of_columns columns) (λ word. slice_index word i) ∙ length-map columns bytes ∙ size))
    (λ k within.
    let inside : k < length columns = omega arith in
    let k_below : k < 182 = omega arith in
    let inside_words : k < length (words_of_columns columns) = rw length-map inside in
    read k blank_column k_below
    ∙ ap (λ word. slice_index word i) (sym (get_or-map bytes columns k blank_column [] inside))
    ∙ sym (get_or-map (λ word. slice_index word i) (words_of_columns columns) k [] 0 inside_words))
    ∙ sym (from_columns-line (words_of_columns columns) i below)

-- the answers to all columns from the first on
pub columns-whole : (answers : List (Option (List ℕ))) (columns : List ColumnAnswer) → length columns ≡ 182
    → AreColumnsFrom answers 0 columns → AreColumns answers columns
columns-whole answers columns size from j d below =
    subst (λ (n : ℕ). column_word (get_or columns j d) ≡ column_answer answers n) {x = 0 + j} (omega arith) (from.are j d (omega (arith, below, size)))

-- an answer that is true exactly for codewords is the test
pub codeword_tested : (answer : Bool) (row : List ℕ) → length row ≡ 182 → All IsByte row → IsTrue answer ↔ IsCodeword 182 10 row → answer ≡ vanishes_at_all 10 row
codeword_tested true row size bytes decides = sym (codeword-vanishes 182 10 row (decides.0 refl))
codeword_tested false row size bytes decides = refused (vanishes_at_all 10 row) refl where
  -- a row that isn't a codeword fails the test
  refused : (test : Bool) → vanishes_at_all 10 row ≡ test → false ≡ test
  refused true passes = decides.1 (vanishing-codeword 182 10 row size bytes passes)
  refused false fails = refl

-- a test of the flags passes first where the first column without an answer is
pub missing_first : (columns : List ColumnAnswer) (j : ℕ) → j < length columns → ((k : ℕ) (d : ColumnAnswer) → k < j → (get_or columns k d).answered ≡ true)
    → (get_or columns j blank_column).answered ≡ false → position (λ (column : ColumnAnswer). not column.answered) columns ≡ Some j
missing_first columns j within before here =
    first_passes (λ (column : ColumnAnswer). not column.answered) columns j blank_column within
    (λ k below. ap not (before k blank_column below)) (ap not here)

-- and nowhere where all columns are answered
pub missing_none : (columns : List ColumnAnswer) → ((k : ℕ) (d : ColumnAnswer) → k < length columns → (get_or columns k d).answered ≡ true)
    → position (λ (column : ColumnAnswer). not column.answered) columns ≡ None
missing_none columns all = none_passes (λ (column : ColumnAnswer). not column.answered) columns blank_column (λ k within. ap not (all k blank_column within))

-- the first row of a block that doesn't vanish is found where it is
pub wrong_first : (block : List (List ℕ)) (i : ℕ) → i < length block → ((k : ℕ) → k < i → vanishes_at_all 10 (line block k) ≡ true)
    → vanishes_at_all 10 (line block i) ≡ false → position (λ row. not (vanishes_at_all 10 row)) block ≡ Some i
wrong_first block i within before here =
    first_passes (λ row. not (vanishes_at_all 10 row)) block i [] within (λ k below. ap not (before k below)) (ap not here)

-- and none where all rows vanish
pub wrong_none : (block : List (List ℕ)) → ((k : ℕ) → k < length block → vanishes_at_all 10 (line block k) ≡ true)
    → position (λ row. not (vanishes_at_all 10 row)) block ≡ None
wrong_none block all = none_passes (λ row. not (vanishes_at_all 10 row)) block [] (λ k within. ap not (all k within))

-- what holds of the rows below `top` and of the n rows from there on holds of all below their end
pub rows_more : (P : ℕ → Type 0) (top n : ℕ) → ((k : ℕ) → k < top → P k) → ((k : ℕ) → k < n → P (top + k)) → (k : ℕ) → k < top + n → P k
rows_more P top n before more k below =
    elim (cases_lt k top) [
      | inl under ↦ before k under
      | inr above ↦ subst P {x = top + (k - top)} (omega arith) (more (k - top) (omega arith))
    ]
