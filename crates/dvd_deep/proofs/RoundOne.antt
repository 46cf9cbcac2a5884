-- Where two passes determine a block, round 1 finishes with it.
use Rattle.std.proofs.Common.{◌≡◌, ◌∙◌, ℕ, ◌+◌, ◌<◌, ◌≤◌, Bool, true, false, ◌&&◌, true≢false, List, [], length, get_or, slice_index, unwrap_or, refl, sym, ap, subst, arith, Some, None, is_none, is_some}
use Rattle.std.specs.List.{list_all, range_with_len}
use Rattle.std.specs.Option.{option_map, option_or}
use Rattle.std.specs.declared.option.Option.{Option}
use Rattle.std.proofs.lemmas.List.{get_or-map, length-map}
use Rattle.std.proofs.lemmas.List.FromFn.{fill_by_all, length-map-range_with_len, get_or-map-range_with_len, get_or-range_with_len, length-range_with_len}
use Rattle.std.proofs.lemmas.List.Sums.{list_all-from_AllPass}
use Rattle.coding.specs.Words.{IsNear, cost}
use Rattle.coding.specs.Nearest.{near_of, vanishes_at_all}
use Rattle.rs_decode.proofs.OneNear.{cost-alike}
use Rattle.rs_decode.proofs.NearSearch.{codeword-vanishes, near_of-some}
use Rattle.coding.specs.Product.{IsProduct, column, line}
use Rattle.dvd_block.proofs.Columns.{get_or-column, length-column}
use Rattle.coding.specs.TwoPass.{IsTwoPass, answer_column, answers_of, byte_or_zero, failed_of}
use Rattle.dvd_capture.proofs.Columns.{from_columns-product, length-answer_column, length-answers_of}
use Rattle.dvd_read.proofs.RowAnswers.{get_or-answers_of}
use Rattle.dvd_deep.specs.Laws.{TwoPassIsRoundOne}
use Rattle.dvd_deep.specs.Rounds.{State, after_rounds, are_answered, column_marks, column_near, failed_marks, finishes, first_round, round, row_near, row_step, state_in}
use Rattle.dvd_deep.specs.Inner.Steps.{column_then, row_then}
use Rattle.dvd_deep.proofs.Products.{length-failed, round-rows, row_step-height, word-then, words_then}
use Rattle.dvd_deep.proofs.Searches.{after_rounds-next, finishes-by, first-found, nothing-played}

-- ---- the row step and the first pass

-- the first pass answers row i as the row step does
answer-near : (received : List (List ℕ)) (marks : List (List Bool)) (i : ℕ) → length received ≡ 208 → length marks ≡ 208 → i < 208
    → get_or (answers_of received marks) i None ≡ row_near (state_in received marks) i
answer-near received marks i height marks_height below = get_or-answers_of received marks i None (omega (arith, height)) (omega (arith, marks_height))

-- the failed rows are those of the first pass
failed-same : (received : List (List ℕ)) (marks : List (List Bool)) → length received ≡ 208 → length marks ≡ 208
    → failed_marks (state_in received marks) ≡ failed_of (answers_of received marks)
unfolding failed_marks
failed-same received marks height marks_height =
    let size = length-answers_of received marks 208 height marks_height in
    sym (fill_by_all (λ i. is_none (row_near (state_in received marks) i)) (failed_of (answers_of received marks)) 208 false (length-map (answers_of received marks) is_none ∙ size)
    (λ i below.
    get_or-map is_none (answers_of received marks) i None false (omega (arith, size)) ∙ ap is_none (answer-near received marks i height marks_height below)))

-- row i of a row step is what becomes of row i
pub row_step-line : (state : State) (i : ℕ) → i < 208 → line (row_step state).rows i ≡ row_then state i
unfolding row_step
row_step-line state i below = get_or-map-range_with_len (row_then state) 0 208 i i [] below (omega arith)

-- a row that didn't fail has the bytes of its answer
answered-byte : (found : Option (List ℕ)) (row : List ℕ) (j : ℕ) → is_none found ≡ false → slice_index (unwrap_or found row) j ≡ byte_or_zero j found
answered-byte None row j answered = absurd (true≢false answered)
answered-byte (Some word) row j answered = refl

-- so a column agrees with the answers where no row failed
column-agrees : (received : List (List ℕ)) (marks : List (List Bool)) (j k : ℕ) → length received ≡ 208 → length marks ≡ 208 → k < 208
    → get_or (failed_of (answers_of received marks)) k false ≡ false
    → get_or (answer_column (answers_of received marks) j) k 0 ≡ get_or (column (row_step (state_in received marks)).rows j) k 0
unfolding answer_column
column-agrees received marks j k height marks_height below clear =
    let state = state_in received marks in
    let answers = answers_of received marks in
    let size = length-answers_of received marks 208 height marks_height in
    let is = answer-near received marks k height marks_height below in
    let answered : is_none (row_near state k) ≡ false = ap is_none (sym is) ∙ sym (get_or-map is_none answers k None false (omega (arith, size))) ∙ clear in
    get_or-map (byte_or_zero j) answers k None 0 (omega (arith, size)) ∙ ap (byte_or_zero j) is
    ∙ sym (get_or-column (row_step state).rows j k ∙ ap (λ (row : List ℕ). slice_index row j) (row_step-line state k below)
    ∙ answered-byte (row_near state k) (line received k) j answered)

-- ---- the columns of a block that two passes determine

-- each column of the block that two passes determine is near the column that the row step leaves
column-near-block : (received : List (List ℕ)) (marks : List (List Bool)) (block : List (List ℕ)) (j : ℕ) → length received ≡ 208 → length marks ≡ 208
    → IsTwoPass received marks block → j < 182
    → IsNear 208 16 (column (row_step (state_in received marks)).rows j) (failed_marks (state_in received marks)) (column block j)
column-near-block received marks block j height marks_height agrees below =
    let state = state_in received marks in
    let answers = answers_of received marks in
    let size : length answers ≡ 208 = length-answers_of received marks 208 height marks_height in
    let width : length (column (row_step state).rows j) ≡ 208 = length-column (row_step state).rows j ∙ row_step-height state in
    let answers_width : length (answer_column answers j) ≡ 208 = length-answer_column answers j ∙ size in
    let costs : cost (column block j) (answer_column answers j) (failed_of answers) ≡ cost (column block j) (column (row_step state).rows j) (failed_of answers) =
    cost-alike (column block j) (answer_column answers j) (column (row_step state).rows j) (failed_of answers) (answers_width ∙ sym width)
    (λ k within clear. sym (column-agrees received marks j k height marks_height (omega (arith, length-map answers is_none)) clear)) in
    record {
      codeword = agrees.product.columns j below;
      received_size = width;
      marks_size = length-failed state;
      within = subst (λ flags. cost (column block j) (column (row_step state).rows j) flags ≤ 16) (sym (failed-same received marks height marks_height))
          (subst (λ n. n ≤ 16) costs (agrees.columns j below));
    }

-- each is answered by the first try
column-is : (received : List (List ℕ)) (marks : List (List Bool)) (block : List (List ℕ)) (j : ℕ) → length received ≡ 208 → length marks ≡ 208
    → IsTwoPass received marks block → j < 182
    → column_near (failed_marks (state_in received marks)) (row_step (state_in received marks)) j ≡ Some (column block j)
column-is received marks block j height marks_height agrees below =
    let state = state_in received marks in
    ap (λ (first : Option (List ℕ)). option_or first (near_of 208 16 (column (row_step state).rows j) (column_marks (row_step state).marks j)))
    (near_of-some 208 16 (column (row_step state).rows j) (column block j) (failed_marks state) (omega arith)
    (column-near-block received marks block j height marks_height agrees below))

-- ---- round 1

-- a test that passes for all numbers below n passes on their list
tests-all : (test : ℕ → Bool) (n : ℕ) → ((k : ℕ) → k < n → test k ≡ true) → list_all test (range_with_len 0 n) ≡ true
tests-all test n each =
    list_all-from_AllPass test (range_with_len 0 n)
    (λ k d within.
    let below : k < n = subst (λ m. k < m) (length-range_with_len 0 n) within in
    let same : 0 + k ≡ k = omega arith in
    subst (λ m. test m ≡ true) (sym (get_or-range_with_len 0 n k d below ∙ same)) (each k below))

-- where two passes determine a block, round 1 answers every column
all-answered : (received : List (List ℕ)) (marks : List (List Bool)) (block : List (List ℕ)) → length received ≡ 208 → length marks ≡ 208
    → IsTwoPass received marks block → are_answered (failed_marks (state_in received marks)) (row_step (state_in received marks)) ≡ true
unfolding are_answered
all-answered received marks block height marks_height agrees =
    tests-all (λ j. is_some (column_near (failed_marks (state_in received marks)) (row_step (state_in received marks)) j)) 182
    (λ j below. ap is_some (column-is received marks block j height marks_height agrees below))

-- it leaves the block
round-gives : (received : List (List ℕ)) (marks : List (List Bool)) (block : List (List ℕ)) → length received ≡ 208 → length marks ≡ 208
    → IsTwoPass received marks block → (round (state_in received marks)).rows ≡ block
round-gives received marks block height marks_height agrees =
    let state = state_in received marks in
    round-rows state
    ∙ from_columns-product block (words_then (failed_marks state) (row_step state)) agrees.product (length-map-range_with_len (column_then (failed_marks state) (row_step state)) 0 182)
    (λ j below.
    word-then (failed_marks state) (row_step state) j below
    ∙ ap (λ (found : Option (List ℕ)). unwrap_or found (column (row_step state).rows j)) (column-is received marks block j height marks_height agrees below))

-- each row of a product codeword vanishes at the ten powers of alpha
product-passes : (block : List (List ℕ)) → IsProduct block → list_all (vanishes_at_all 10) block ≡ true
product-passes block product =
    list_all-from_AllPass (vanishes_at_all 10) block (λ k d within. codeword-vanishes 182 10 (get_or block k d) (product.rows k d within))

-- where two passes determine a block, round 1 finishes
round-finishes : (received : List (List ℕ)) (marks : List (List Bool)) (block : List (List ℕ)) → length received ≡ 208 → length marks ≡ 208
    → IsTwoPass received marks block → finishes (state_in received marks) ≡ true
round-finishes received marks block height marks_height agrees =
    let state = state_in received marks in
    finishes-by state
    ∙ ap (λ b. b && list_all (vanishes_at_all 10) (round state).rows) (all-answered received marks block height marks_height agrees)
    ∙ ap (list_all (vanishes_at_all 10)) (round-gives received marks block height marks_height agrees) ∙ product-passes block agrees.product

-- Where two passes determine a block, round 1 finishes with it.
pub two_pass_first : TwoPassIsRoundOne
two_pass_first received marks block height marks_height agrees =
    let state = state_in received marks in
    let first : first_round state ≡ Some 1 =
    first-found state 1 (omega arith) (omega arith) (λ k from below. absurd (omega arith))
    (ap finishes (sym (nothing-played state)) ∙ round-finishes received marks block height marks_height agrees) in (
      first,
      ap (option_map (λ t. (after_rounds t state).rows)) first
          ∙ ap (λ (s : State). Some s.rows) (after_rounds-next state 1 (omega arith) ∙ ap round (sym (nothing-played state)))
          ∙ ap Some (round-gives received marks block height marks_height agrees),
    )
