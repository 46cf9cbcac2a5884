-- The second pass: a block that agrees with the answers has their near columns, so there is at most one.
use Rattle.std.proofs.Common.{◌≡◌, ◌∙◌, ℕ, zero, suc, ◌<◌, ◌≤◌, Bool, List, [], ◌∷◌, length, map, slice_index, get_or, sym, ap, subst, arith, Some, is_none}
use Rattle.std.specs.declared.option.Option.{Option}
use Rattle.std.proofs.lemmas.List.{get_or-map, ext_get_or, length-map}
use Rattle.std.proofs.lemmas.Grind.{same_number_lists}
use Rattle.std.proofs.lemmas.List.FromFn.{length-map-range_with_len, get_or-map-range_with_len}
use Rattle.std.proofs.lemmas.List.Elements.{All-from_get_or}
use Rattle.coding.specs.Words.{IsCodeword, IsNear, cost}
use Rattle.rs_decode.proofs.OneNear.{near_once}
use Rattle.rs_decode.proofs.NearSearch.{near_of-some}
use Rattle.coding.specs.Product.{IsProduct, column, line, place}
use Rattle.coding.specs.TwoPass.{AgreesWith, IsTwoPass, answer_column, answers_of, byte_or_zero, column_answer, failed_of, from_columns}
use Rattle.coding.specs.Filling.{marked}
use Rattle.dvd_capture.proofs.Bound.{marked-cost}

-- a column of row answers has one byte or none for each row
pub length-answer_column : (answers : List (Option (List ℕ))) (j : ℕ) → length (answer_column answers j) ≡ length answers
unfolding answer_column
length-answer_column answers j = length-map answers (byte_or_zero j)

-- each column of a block that agrees is near the column of answers
pub column-near : (answers : List (Option (List ℕ))) (block : List (List ℕ)) (j : ℕ) → length answers ≡ 208 → AgreesWith answers block → j < 182
    → IsNear 208 16 (answer_column answers j) (failed_of answers) (column block j)
column-near answers block j size agrees below = record {
  codeword = agrees.product.columns j below;
  received_size = length-answer_column answers j ∙ size;
  marks_size = length-map answers is_none ∙ size;
  within = agrees.columns j below;
}

-- and is what the second pass answers
pub column-answered : (answers : List (Option (List ℕ))) (block : List (List ℕ)) (j : ℕ) → length answers ≡ 208 → AgreesWith answers block → j < 182
    → column_answer answers j ≡ Some (column block j)
column-answered answers block j size agrees below =
    near_of-some 208 16 (answer_column answers j) (column block j) (failed_of answers) (omega arith) (column-near answers block j size agrees below)

-- byte i of column j is in row i at place j
column-at : (block : List (List ℕ)) (i j : ℕ) → i < length block → slice_index (column block j) i ≡ place block i j
column-at block i j within = get_or-map (λ row. slice_index row j) block i [] 0 within

-- two product blocks with the same columns are the same
pub same_blocks : (a b : List (List ℕ)) → IsProduct a → IsProduct b → ((j : ℕ) → j < 182 → column a j ≡ column b j) → a ≡ b
same_blocks a b product_a product_b same =
    ext_get_or [] a b (product_a.height ∙ sym product_b.height)
    (λ i within_a.
    let within_b : i < length b = omega (arith, product_a.height, product_b.height) in
    let width_a : length (get_or a i []) ≡ 182 = (product_a.rows i [] within_a).size in
    let width_b : length (get_or b i []) ≡ 182 = (product_b.rows i [] within_b).size in
    same_number_lists (get_or a i []) (get_or b i []) (width_a ∙ sym width_b)
    (λ k below.
    let inside : k < 182 = omega arith in
    sym (column-at a i k within_a) ∙ ap (λ column. slice_index column i) (same k inside) ∙ column-at b i k within_b))

-- At most one block agrees with the answers.
pub agrees_once : (answers : List (Option (List ℕ))) (a b : List (List ℕ)) → length answers ≡ 208 → AgreesWith answers a → AgreesWith answers b → a ≡ b
agrees_once answers a b size agrees_a agrees_b =
    same_blocks a b agrees_a.product agrees_b.product
    (λ j below.
    near_once 208 16 (answer_column answers j) (failed_of answers) (column a j) (column b j) (omega arith)
    (column-near answers a j size agrees_a below) (column-near answers b j size agrees_b below))

-- as many answers as rows
pub length-answers_of : (received : List (List ℕ)) (marks : List (List Bool)) (n : ℕ) → length received ≡ n → length marks ≡ n → length (answers_of received marks) ≡ n
unfolding answers_of
length-answers_of [] marks n size marks_size = size
length-answers_of (row ∷ received) [] n size marks_size = absurd (omega arith)
length-answers_of (row ∷ received) (mark ∷ marks) zero size marks_size = absurd (omega arith)
length-answers_of (row ∷ received) (mark ∷ marks) (suc n) size marks_size =
    let rest : length (answers_of received marks) ≡ n = length-answers_of received marks n (omega arith) (omega arith) in
    omega arith

-- so at most one block has two-pass agreement with these rows and marks
pub two_pass_once : (received : List (List ℕ)) (marks : List (List Bool)) (a b : List (List ℕ)) → length received ≡ 208 → length marks ≡ 208
    → IsTwoPass received marks a → IsTwoPass received marks b → a ≡ b
two_pass_once received marks a b size marks_size is_a is_b =
    agrees_once (answers_of received marks) a b (length-answers_of received marks 208 size marks_size) is_a is_b

-- the costs of a column are at least its marks, so at most 16 rows fail where a block agrees
pub few_fail : (answers : List (Option (List ℕ))) (block : List (List ℕ)) → length answers ≡ 208 → AgreesWith answers block → marked (failed_of answers) ≤ 16
few_fail answers block size agrees =
    let near = column-near answers block 0 size agrees (omega arith) in
    let each = marked-cost (column block 0) (answer_column answers 0) (failed_of answers) (near.codeword.size ∙ sym near.marks_size) (near.received_size ∙ sym near.marks_size) in
    omega (arith, near.within)

-- row i of a block by its columns
pub from_columns-line : (columns : List (List ℕ)) (i : ℕ) → i < 208 → line (from_columns columns) i ≡ map (λ word. slice_index word i) columns
unfolding from_columns
from_columns-line columns i below = get_or-map-range_with_len (λ k. map (λ word. slice_index word k) columns) 0 208 i i [] below (omega arith)

-- a block by its columns has 208 rows
pub length-from_columns : (columns : List (List ℕ)) → length (from_columns columns) ≡ 208
unfolding from_columns
length-from_columns columns = length-map-range_with_len (λ k. map (λ word. slice_index word k) columns) 0 208

-- the columns of a product block give the block back
pub from_columns-product : (block columns : List (List ℕ)) → IsProduct block → length columns ≡ 182
    → ((j : ℕ) → j < 182 → get_or columns j [] ≡ column block j) → from_columns columns ≡ block
from_columns-product block columns product size same =
    ext_get_or [] (from_columns columns) block (length-from_columns columns ∙ sym product.height)
    (λ i within.
    let inside : i < length block = omega (arith, product.height, length-from_columns columns) in
    let below : i < 208 = omega (arith, product.height) in
    let width : length (get_or block i []) ≡ 182 = (product.rows i [] inside).size in
    from_columns-line columns i below
    ∙ same_number_lists (map (λ word. slice_index word i) columns) (get_or block i [])
    (length-map columns (λ word. slice_index word i) ∙ size ∙ sym width)
    (λ k k_within.
    let k_below : k < length columns = subst (λ n. k < n) (length-map columns (λ word. slice_index word i)) k_within in
    let k_inside : k < 182 = omega arith in
    get_or-map (λ word. slice_index word i) columns k [] 0 k_below
    ∙ ap (λ word. slice_index word i) (same k k_inside)
    ∙ column-at block i k inside))

-- The columns of a block by its columns are these columns, if they have 208 bytes each.
pub column-from_columns : (columns : List (List ℕ)) (j : ℕ) → j < length columns → length (get_or columns j []) ≡ 208
    → column (from_columns columns) j ≡ get_or columns j []
column-from_columns columns j within size =
    same_number_lists (map (λ row. slice_index row j) (from_columns columns)) (get_or columns j [])
    (length-map (from_columns columns) (λ row. slice_index row j) ∙ length-from_columns columns ∙ sym size)
    (λ i i_within.
    let i_inside : i < length (from_columns columns) = subst (λ n. i < n) (length-map (from_columns columns) (λ row. slice_index row j)) i_within in
    let i_below : i < 208 = omega (arith, length-from_columns columns) in
    get_or-map (λ row. slice_index row j) (from_columns columns) i [] 0 i_inside
    ∙ ap (λ row. slice_index row j) (from_columns-line columns i i_below)
    ∙ get_or-map (λ word. slice_index word i) columns j [] 0 within)

-- what the second pass found in each column
pub record AreNearColumns (answers : List (Option (List ℕ))) (columns : List (List ℕ)) : Type 0 where
  pub size : length columns ≡ 182
  pub near : (j : ℕ) → j < 182 → IsNear 208 16 (answer_column answers j) (failed_of answers) (get_or columns j [])

-- the block of the near columns agrees with the answers, if its rows are codewords
pub near_columns-agree : (answers : List (Option (List ℕ))) (columns : List (List ℕ)) → AreNearColumns answers columns
    → ((i : ℕ) → i < 208 → IsCodeword 182 10 (line (from_columns columns) i)) → AgreesWith answers (from_columns columns)
near_columns-agree answers columns are rows =
    let same : (j : ℕ) → j < 182 → column (from_columns columns) j ≡ get_or columns j [] = λ j below.
    column-from_columns columns j (omega (arith, are.size)) (are.near j below).codeword.size in
    record {
      product = record {
        height = length-from_columns columns;
        rows = All-from_get_or (IsCodeword 182 10) (from_columns columns) [] (λ i within. rows i (omega (arith, length-from_columns columns)));
        columns = λ j below. subst (IsCodeword 208 16) (sym (same j below)) (are.near j below).codeword;
      };
      columns = λ j below. subst (λ word. cost word (answer_column answers j) (failed_of answers) ≤ 16) (sym (same j below)) (are.near j below).within;
    }

-- A block that agrees is the block of its near columns, so where that has a row that isn't a codeword, none agrees.
pub agrees-from_columns : (answers : List (Option (List ℕ))) (columns block : List (List ℕ)) → length answers ≡ 208 → AreNearColumns answers columns
    → AgreesWith answers block → from_columns columns ≡ block
agrees-from_columns answers columns block size are agrees =
    from_columns-product block columns agrees.product are.size
    (λ j below.
    near_once 208 16 (answer_column answers j) (failed_of answers) (get_or columns j []) (column block j) (omega arith)
    (are.near j below) (column-near answers block j size agrees below))
