-- What two passes find and why they refuse: there is no cause exactly where a block agrees with the answers.
use Rattle.std.proofs.Common.{◌≡◌, ◌∙◌, ℕ, ◌<◌, ◌≤◌, Bool, true, false, if◌then◌else◌, not, nat_lt, List, [], length, map, get_or, position, slice_index, unwrap_or, All, refl, sym, ap, subst, arith, Some, None, is_none}
use Rattle.std.specs.Option.{option_map, option_or}
use Rattle.std.specs.declared.option.Option.{Option}
use Rattle.std.proofs.lemmas.Bool.{lt-ltb, not-false}
use Rattle.std.proofs.lemmas.Bool.Decides.{nat_tests}
use Rattle.std.proofs.lemmas.List.{get_or-map, length-map}
use Rattle.std.proofs.lemmas.List.FromFn.{length-map-range_with_len, get_or-map-range_with_len}
use Rattle.std.proofs.lemmas.List.Elements.{All-from_get_or}
use Rattle.coding.specs.Field.{alpha, power}
use Rattle.coding.specs.Words.{IsByte, IsCodeword, IsNear}
use Rattle.coding.specs.Filling.{marked}
use Rattle.coding.specs.Nearest.{vanishes_at_all}
use Rattle.rs_decode.proofs.NearSearch.{near_of-is_near, codeword-vanishes, vanishing-codeword}
use Rattle.coding.specs.Product.{column, line}
use Rattle.coding.specs.TwoPass.{AgreesWith, answer_column, column_answer, failed_of, from_columns}
use Rattle.dvd_block.proofs.Linear.{unmarked_vanish}
use Rattle.dvd_capture.proofs.Columns.{AreNearColumns, agrees-from_columns, column-answered, column-from_columns, few_fail, from_columns-line, length-answer_column, length-from_columns, near_columns-agree}
use Rattle.dvd_decoding.specs.Causes.{two_pass_cause}
use Rattle.coding.specs.Found.{block_found, columns_of}
use Rattle.dvd_decoding.specs.declared.cause.Cause.{Cause}
use Rattle.dvd_decoding.specs.declared.cause.Cause.TheVariants.{Rows, Column, Row}
use Rattle.dvd_read.proofs.Positions.{none_passes, none_fails}

-- the first column without an answer
abbrev pub missing_column : List (Option (List ℕ)) → Option ℕ
missing_column answers = position is_none (columns_of answers)

-- the first row of the block found that isn't a codeword
abbrev pub wrong_row : List (Option (List ℕ)) → Option ℕ
wrong_row answers = position (λ row. not (vanishes_at_all 10 row)) (block_found answers)

-- the second pass answers to 182 columns
pub length-columns_of : (answers : List (Option (List ℕ))) → length (columns_of answers) ≡ 182
unfolding columns_of
length-columns_of answers = length-map-range_with_len (column_answer answers) 0 182

-- the answer to column j is that of the second pass to it
pub get_or-columns_of : (answers : List (Option (List ℕ))) (j : ℕ) (d : Option (List ℕ)) → j < 182 → get_or (columns_of answers) j d ≡ column_answer answers j
unfolding columns_of
get_or-columns_of answers j d below = get_or-map-range_with_len (column_answer answers) 0 182 j j d below (omega arith)

-- where a block agrees, no column is without an answer
none_missing : (answers : List (Option (List ℕ))) (block : List (List ℕ)) → length answers ≡ 208 → AgreesWith answers block → missing_column answers ≡ None
none_missing answers block size agrees =
    none_passes is_none (columns_of answers) None
    (λ j within.
    let below : j < 182 = omega (arith, length-columns_of answers) in
    ap is_none (get_or-columns_of answers j None below ∙ column-answered answers block j size agrees below))

-- the words of the columns, with none for a column without an answer
words : List (Option (List ℕ)) → List (List ℕ)
words answers = map (λ column. unwrap_or column []) (columns_of answers)

-- there are 182 words of columns
length-words : (answers : List (Option (List ℕ))) → length (words answers) ≡ 182
unfolding words
length-words answers = length-map (columns_of answers) (λ column. unwrap_or column []) ∙ length-columns_of answers

-- the word of column j is its answer, or nothing
get_or-words : (answers : List (Option (List ℕ))) (j : ℕ) → j < 182 → get_or (words answers) j [] ≡ unwrap_or (column_answer answers j) []
unfolding words
get_or-words answers j below =
    get_or-map (λ column. unwrap_or column []) (columns_of answers) j None [] (omega (arith, length-columns_of answers))
    ∙ ap (λ column. unwrap_or column []) (get_or-columns_of answers j None below)

-- the block found has these words as columns
found-words : (answers : List (Option (List ℕ))) → block_found answers ≡ from_columns (words answers)
unfolding block_found words
found-words answers = refl

-- an answered column is near
near_word : (answers : List (Option (List ℕ))) (j : ℕ) (found : Option (List ℕ)) → length answers ≡ 208 → column_answer answers j ≡ found → is_none found ≡ false
    → IsNear 208 16 (answer_column answers j) (failed_of answers) (unwrap_or found [])
near_word answers j None size is answered = cc
near_word answers j (Some word) size is answered =
    near_of-is_near 208 16 (answer_column answers j) word (failed_of answers) (length-answer_column answers j ∙ size) (length-map answers is_none ∙ size) is

-- where no column is missing, the words of all columns are near
all_near : (answers : List (Option (List ℕ))) → length answers ≡ 208 → missing_column answers ≡ None → AreNearColumns answers (words answers)
all_near answers size none = record {
  size = length-words answers;
  near = λ j below.
      let inside : j < length (columns_of answers) = omega (arith, length-columns_of answers) in
      let answered : is_none (column_answer answers j) ≡ false =
      ap is_none (sym (get_or-columns_of answers j None below)) ∙ none_fails is_none (columns_of answers) j None none inside in
      subst (IsNear 208 16 (answer_column answers j) (failed_of answers)) (sym (get_or-words answers j below))
      (near_word answers j (column_answer answers j) size refl answered);
}

-- the rows of 182 columns have 182 bytes
row_size : (columns : List (List ℕ)) (i : ℕ) → length columns ≡ 182 → i < 208 → length (line (from_columns columns) i) ≡ 182
row_size columns i size below = ap length (from_columns-line columns i below) ∙ length-map columns (λ word. slice_index word i) ∙ size

-- the rows of near columns are of bytes
row_bytes : (answers : List (Option (List ℕ))) (columns : List (List ℕ)) (i : ℕ) → AreNearColumns answers columns → i < 208
    → All IsByte (line (from_columns columns) i)
row_bytes answers columns i are below =
    subst (All IsByte) (sym (from_columns-line columns i below))
    (All-from_get_or IsByte (map (λ word. slice_index word i) columns) 0
    (λ j within.
    let inside : j < length columns = subst (λ n. j < n) (length-map columns (λ word. slice_index word i)) within in
    let j_below : j < 182 = omega (arith, are.size) in
    let codeword = (are.near j j_below).codeword in
    subst IsByte (sym (get_or-map (λ word. slice_index word i) columns j [] 0 inside))
    (codeword.bytes i 0 (omega (arith, codeword.size)))))

-- where no row is wrong, the block found agrees with the answers
agrees-found : (answers : List (Option (List ℕ))) → length answers ≡ 208 → missing_column answers ≡ None → wrong_row answers ≡ None → AgreesWith answers (block_found answers)
agrees-found answers size none_lost none_wrong =
    let are = all_near answers size none_lost in
    let test : List ℕ → Bool = λ row. not (vanishes_at_all 10 row) in
    subst (AgreesWith answers) (sym (found-words answers))
    (near_columns-agree answers (words answers) are
    (λ i below.
    let inside : i < length (block_found answers) = omega (arith, ap length (found-words answers), length-from_columns (words answers)) in
    let fine : not (vanishes_at_all 10 (line (block_found answers) i)) ≡ false = none_fails test (block_found answers) i [] none_wrong inside in
    let vanishes : vanishes_at_all 10 (line (from_columns (words answers)) i) ≡ true =
    ap (λ block. vanishes_at_all 10 (line block i)) (sym (found-words answers)) ∙ not-false (vanishes_at_all 10 (line (block_found answers) i)) fine in
    vanishing-codeword 182 10 (line (from_columns (words answers)) i) (row_size (words answers) i (length-words answers) below)
    (row_bytes answers (words answers) i are below) vanishes))

-- Where all columns are answered, at most sixteen rows failed and all others vanish, these vanish too.
pub failed-vanish : (answers : List (Option (List ℕ))) → length answers ≡ 208 → marked (failed_of answers) ≤ 16 → missing_column answers ≡ None
    → ((i : ℕ) → i < 208 → get_or (failed_of answers) i false ≡ false → vanishes_at_all 10 (line (block_found answers) i) ≡ true)
    → (i : ℕ) → i < 208 → vanishes_at_all 10 (line (block_found answers) i) ≡ true
failed-vanish answers size few none others i below =
    let are = all_near answers size none in
    let block : List (List ℕ) = from_columns (words answers) in
    let is : block_found answers ≡ block = found-words answers in
    let wide : (m : ℕ) → m < 208 → length (line block m) ≡ 182 = λ m inside. row_size (words answers) m (length-words answers) inside in
    let bytes : (m : ℕ) → m < 208 → All IsByte (line block m) = λ m inside. row_bytes answers (words answers) m are inside in
    let codewords : (j : ℕ) → j < 182 → IsCodeword 208 16 (column block j) = λ j inside.
    let codeword = (are.near j inside).codeword in
    subst (IsCodeword 208 16) (sym (column-from_columns (words answers) j (omega (arith, are.size)) codeword.size)) codeword in
    let vanish : (m : ℕ) → m < 208 → get_or (failed_of answers) m false ≡ false → vanishes_at_all 10 (line block m) ≡ true = λ m inside clear.
    ap (λ (b : List (List ℕ)). vanishes_at_all 10 (line b m)) (sym is) ∙ others m inside clear in
    subst (λ (b : List (List ℕ)). vanishes_at_all 10 (line b i) ≡ true) (sym is)
    (codeword-vanishes 182 10 (line block i) (record {
      size = wide i below;
      bytes = bytes i below;
      vanishes = λ k under.
          unmarked_vanish 182 208 16 (power alpha k) block (failed_of answers) (omega arith) (length-from_columns (words answers))
          (length-map answers is_none ∙ size) few wide codewords
          (λ m inside clear. (vanishing-codeword 182 10 (line block m) (wide m inside) (bytes m inside) (vanish m inside clear)).vanishes k under) i below;
    }))

-- a block that agrees is the one found
pub found-agrees : (answers : List (Option (List ℕ))) (block : List (List ℕ)) → length answers ≡ 208 → AgreesWith answers block → block_found answers ≡ block
found-agrees answers block size agrees =
    found-words answers ∙ agrees-from_columns answers (words answers) block size (all_near answers size (none_missing answers block size agrees)) agrees

-- where a block agrees, no row of the block found is wrong
none_wrong : (answers : List (Option (List ℕ))) (block : List (List ℕ)) → length answers ≡ 208 → AgreesWith answers block → wrong_row answers ≡ None
none_wrong answers block size agrees =
    let test : List ℕ → Bool = λ row. not (vanishes_at_all 10 row) in
    none_passes test (block_found answers) []
    (λ i within.
    let is = found-agrees answers block size agrees in
    let inside : i < length block = subst (λ b. i < length b) is within in
    ap (λ b. test (line b i)) is ∙ ap not (codeword-vanishes 182 10 (line block i) (agrees.product.rows i [] inside)))

-- where few rows failed, and no column is without an answer and no row wrong, there is no cause
no_cause : (answers : List (Option (List ℕ))) → marked (failed_of answers) ≤ 16 → missing_column answers ≡ None → wrong_row answers ≡ None → two_pass_cause answers ≡ None
unfolding two_pass_cause
no_cause answers few lost wrong =
    let not_many : nat_lt 16 (marked (failed_of answers)) ≡ false = grind (arith, nat_tests) in
    rw (not_many, lost, wrong) refl

-- more than sixteen failed rows are the cause
pub rows_cause : (answers : List (Option (List ℕ))) (failed : ℕ) → failed ≡ marked (failed_of answers) → 16 < failed → two_pass_cause answers ≡ Some (Rows failed)
unfolding two_pass_cause
rows_cause answers failed is many =
    let test : nat_lt 16 (marked (failed_of answers)) ≡ true = lt-ltb 16 (marked (failed_of answers)) (omega arith) in
    rw test (ap (λ n. Some (Rows n)) (sym is))

-- with no more, the first column without an answer is the cause
pub column_cause : (answers : List (Option (List ℕ))) (j : ℕ) → marked (failed_of answers) ≤ 16 → missing_column answers ≡ Some j → two_pass_cause answers ≡ Some (Column j)
unfolding two_pass_cause
column_cause answers j few lost =
    let not_many : nat_lt 16 (marked (failed_of answers)) ≡ false = grind (arith, nat_tests) in
    rw (not_many, lost) refl

-- with all columns answered, the first wrong row is the cause
pub row_cause : (answers : List (Option (List ℕ))) (i : ℕ) → marked (failed_of answers) ≤ 16 → missing_column answers ≡ None → wrong_row answers ≡ Some i → two_pass_cause answers ≡ Some (Row i)
unfolding two_pass_cause
row_cause answers i few lost wrong =
    let not_many : nat_lt 16 (marked (failed_of answers)) ≡ false = grind (arith, nat_tests) in
    rw (not_many, lost, wrong) refl

-- Where a block agrees with the answers, there is no cause.
pub agrees-no_cause : (answers : List (Option (List ℕ))) (block : List (List ℕ)) → length answers ≡ 208 → AgreesWith answers block → two_pass_cause answers ≡ None
agrees-no_cause answers block size agrees =
    no_cause answers (few_fail answers block size agrees) (none_missing answers block size agrees) (none_wrong answers block size agrees)

-- where there is a cause, no block agrees
pub cause-none_agrees : (answers : List (Option (List ℕ))) (cause : Cause) (block : List (List ℕ)) → length answers ≡ 208 → two_pass_cause answers ≡ Some cause
    → AgreesWith answers block → ⊥
cause-none_agrees answers cause block size is agrees = let none = agrees-no_cause answers block size agrees in cc

-- where none of the three applies, there is no cause, and the block found agrees
pub fixed-agrees : (answers : List (Option (List ℕ))) → length answers ≡ 208 → marked (failed_of answers) ≤ 16 → missing_column answers ≡ None → wrong_row answers ≡ None
    → (two_pass_cause answers ≡ None) × AgreesWith answers (block_found answers)
fixed-agrees answers size few lost wrong = (no_cause answers few lost wrong, agrees-found answers size lost wrong)

-- where there is no cause, none of its three parts is there
cause_parts : (answers : List (Option (List ℕ))) (many : Bool) (lost wrong : Option ℕ) (failed : ℕ)
    → (if many then Some (Rows failed) else option_or (option_map Column lost) (option_map Row wrong)) ≡ None → (many ≡ false) × (lost ≡ None) × (wrong ≡ None)
cause_parts answers true lost wrong failed is = cc
cause_parts answers false (Some j) wrong failed is = cc
cause_parts answers false None (Some i) failed is = cc
cause_parts answers false None None failed is = (refl, refl, refl)

-- Where there is no cause, the block found agrees with the answers.
pub no_cause-agrees : (answers : List (Option (List ℕ))) → length answers ≡ 208 → two_pass_cause answers ≡ None → AgreesWith answers (block_found answers)
unfolding two_pass_cause
no_cause-agrees answers size is =
    let parts = cause_parts answers (nat_lt 16 (marked (failed_of answers))) (missing_column answers) (wrong_row answers) (marked (failed_of answers)) is in
    agrees-found answers size parts.1 parts.2
