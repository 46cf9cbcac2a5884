-- The columns that the code answered are those of the second pass.
use Rattle.std.proofs.Common.{◌≡◌, ◌∙◌, ℕ, ◌<◌, ◌≤◌, Bool, true, false, cond, not, List, [], ◌∷◌, length, map, get_or, position, unwrap_or, refl, sym, ap, subst, arith, Some, None, is_none}
use Rattle.std.specs.List.{prefix_len}
use Rattle.std.specs.declared.option.Option.{Option}
use Rattle.std.proofs.lemmas.Bool.{not-false}
use Rattle.std.proofs.lemmas.List.{get_or-map, ext_get_or, length-map}
use Rattle.coding.specs.Nearest.{vanishes_at_all}
use Rattle.coding.specs.Product.{line}
use Rattle.coding.specs.Filling.{marked}
use Rattle.coding.specs.TwoPass.{AgreesWith, failed_of, from_columns}
use Rattle.dvd_capture.specs.declared.parts.ColumnAnswer.{ColumnAnswer}
use Rattle.dvd_decoding.specs.Causes.{two_pass_cause}
use Rattle.coding.specs.Found.{block_found, columns_of}
use Rattle.dvd_read.specs.Parts.{column_word}
use Rattle.dvd_read.specs.Inner.Found.{words_of_columns}
use Rattle.dvd_decoding.specs.declared.cause.Cause.TheVariants.{Column, Row}
use Rattle.dvd_read.proofs.ColumnAnswers.{AreColumns, blank_column}
use Rattle.dvd_read.proofs.Outcomes.{missing_column, get_or-columns_of, length-columns_of, column_cause, row_cause, failed-vanish, fixed-agrees}
use Rattle.dvd_read.proofs.Positions.{none_fails}

-- the columns that the code answered, as words, are those of the second pass
answers-are : (answers : List (Option (List ℕ))) (columns : List ColumnAnswer) → length columns ≡ 182 → AreColumns answers columns → map column_word columns ≡ columns_of answers
answers-are answers columns size are =
    ext_get_or None (map column_word columns) (columns_of answers) (length-map columns column_word ∙ size ∙ sym (length-columns_of answers))
    (λ j within.
    let inside : j < length columns = subst (λ n. j < n) (length-map columns column_word) within in
    let below : j < 182 = omega arith in
    get_or-map column_word columns j blank_column None inside ∙ are j blank_column below ∙ sym (get_or-columns_of answers j None below))

-- a test after a map counts as its own test before it
prefix_len-map : {X Y : Type 0} (p : Y → Bool) (q : X → Bool) (f : X → Y) (xs : List X) → ((x : X) → p (f x) ≡ q x) → prefix_len p (map f xs) ≡ prefix_len q xs
prefix_len-map p q f [] same = refl
prefix_len-map p q f (x ∷ xs) same = rw (same x, prefix_len-map p q f xs same) refl

-- a column has no word where its flag isn't set
unanswered-by : (flag : Bool) (bytes : List ℕ) → is_none (cond flag (Some bytes) None) ≡ not flag
unanswered-by true bytes = refl
unanswered-by false bytes = refl

-- the first column whose flag isn't set is the first that the second pass leaves without an answer
missing-is : (answers : List (Option (List ℕ))) (columns : List ColumnAnswer) → length columns ≡ 182 → AreColumns answers columns
    → position (λ (column : ColumnAnswer). not column.answered) columns ≡ missing_column answers
missing-is answers columns size are =
    let lengths = prefix_len-map (λ word. not (is_none word)) (λ (column : ColumnAnswer). not (not column.answered)) column_word columns
    (λ column. ap not (unanswered-by column.answered column.bytes)) in
    position-by (λ (column : ColumnAnswer). not column.answered) is_none columns (map column_word columns) (sym (length-map columns column_word)) (sym lengths)
    ∙ ap (position is_none) (answers-are answers columns size are)
  where
    -- tests that fail on equally long fronts of equally long lists pass first at the same place
    position-by : {X Y : Type 0} (p : X → Bool) (q : Y → Bool) (xs : List X) (ys : List Y) → length xs ≡ length ys
        → prefix_len (λ x. not (p x)) xs ≡ prefix_len (λ y. not (q y)) ys → position p xs ≡ position q ys
    position-by p q xs ys sizes lengths = rw (sizes, lengths) refl

-- a column whose flag is set has its bytes as its word
word-by : (flag : Bool) (bytes : List ℕ) → flag ≡ true → bytes ≡ unwrap_or (cond flag (Some bytes) None) []
word-by true bytes is = refl
word-by false bytes is = cc

-- where each column is answered, the columns' words are those of the block found
pub words-found : (answers : List (Option (List ℕ))) (columns : List ColumnAnswer) → length columns ≡ 182 → AreColumns answers columns
    → position (λ (column : ColumnAnswer). not column.answered) columns ≡ None → from_columns (words_of_columns columns) ≡ block_found answers
unfolding block_found
words-found answers columns size are none =
    let bytes : ColumnAnswer → List ℕ = λ column. column.bytes in
    ap from_columns
    (ext_get_or [] (words_of_columns columns) (map (λ column. unwrap_or column []) (columns_of answers))
    (length-map columns bytes ∙ size ∙ sym (length-map (columns_of answers) (λ column. unwrap_or column []) ∙ length-columns_of answers))
    (λ j within.
    let inside : j < length columns = subst (λ n. j < n) (length-map columns bytes) within in
    let below : j < 182 = omega arith in
    let answered : (get_or columns j blank_column).answered ≡ true =
    not-false _ (none_fails (λ (column : ColumnAnswer). not column.answered) columns j blank_column none inside) in
    get_or-map bytes columns j blank_column [] inside
    ∙ word-by (get_or columns j blank_column).answered (get_or columns j blank_column).bytes answered
    ∙ ap (λ column. unwrap_or column []) (are j blank_column below ∙ sym (get_or-columns_of answers j None below))
    ∙ sym (get_or-map (λ column. unwrap_or column []) (columns_of answers) j None [] (omega (arith, length-columns_of answers)))))

-- so where at most sixteen rows failed, all rows of the columns' words vanish if those do that didn't fail
pub rows_all-vanish : (answers : List (Option (List ℕ))) (columns : List ColumnAnswer) → length answers ≡ 208 → length columns ≡ 182
    → AreColumns answers columns → marked (failed_of answers) ≤ 16 → position (λ (column : ColumnAnswer). not column.answered) columns ≡ None
    → ((i : ℕ) → i < 208 → get_or (failed_of answers) i false ≡ false → vanishes_at_all 10 (line (from_columns (words_of_columns columns)) i) ≡ true)
    → (i : ℕ) → i < 208 → vanishes_at_all 10 (line (from_columns (words_of_columns columns)) i) ≡ true
rows_all-vanish answers columns answers_size size are few none others i below =
    let is = words-found answers columns size are none in
    ap (λ (b : List (List ℕ)). vanishes_at_all 10 (line b i)) is
    ∙ failed-vanish answers answers_size few (sym (missing-is answers columns size are) ∙ none)
    (λ m inside clear. ap (λ (b : List (List ℕ)). vanishes_at_all 10 (line b m)) (sym is) ∙ others m inside clear) i below

-- where at most sixteen rows failed, the first column without an answer is the cause
pub column_refused : (answers : List (Option (List ℕ))) (columns : List ColumnAnswer) (j : ℕ) → length columns ≡ 182 → AreColumns answers columns
    → marked (failed_of answers) ≤ 16 → position (λ (column : ColumnAnswer). not column.answered) columns ≡ Some j → two_pass_cause answers ≡ Some (Column j)
column_refused answers columns j size are few first = column_cause answers j few (sym (missing-is answers columns size are) ∙ first)

-- where all columns are answered, the first row that isn't a codeword is the cause
pub row_refused : (answers : List (Option (List ℕ))) (columns : List ColumnAnswer) (i : ℕ) → length columns ≡ 182 → AreColumns answers columns
    → marked (failed_of answers) ≤ 16 → position (λ (column : ColumnAnswer). not column.answered) columns ≡ None
    → position (λ row. not (vanishes_at_all 10 row)) (from_columns (words_of_columns columns)) ≡ Some i → two_pass_cause answers ≡ Some (Row i)
row_refused answers columns i size are few none first =
    row_cause answers i few (sym (missing-is answers columns size are) ∙ none)
    (ap (position (λ row. not (vanishes_at_all 10 row))) (sym (words-found answers columns size are none)) ∙ first)

-- where all columns are answered and all rows vanish, there is no cause, and the block found agrees
pub block_accepted : (answers : List (Option (List ℕ))) (columns : List ColumnAnswer) → length answers ≡ 208 → length columns ≡ 182 → AreColumns answers columns
    → marked (failed_of answers) ≤ 16 → position (λ (column : ColumnAnswer). not column.answered) columns ≡ None
    → position (λ row. not (vanishes_at_all 10 row)) (from_columns (words_of_columns columns)) ≡ None
    → (two_pass_cause answers ≡ None) × AgreesWith answers (block_found answers)
block_accepted answers columns answers_size size are few none fine =
    fixed-agrees answers answers_size few (sym (missing-is answers columns size are) ∙ none)
    (ap (position (λ row. not (vanishes_at_all 10 row))) (sym (words-found answers columns size are none)) ∙ fine)
