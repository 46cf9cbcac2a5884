-- Whatever block a round finishes with is a product codeword.
use Rattle.std.proofs.Common.{◌≡◌, ◌∙◌, ℕ, zero, suc, ◌+◌, ◌-◌, ◌<◌, ◌≤◌, Bool, true, false, true≢false, cond, List, [], length, map, find, get_or, slice_index, unwrap_or, All, refl, sym, ap, subst, arith, Some, None, is_none, is_some}
use Rattle.std.specs.List.{list_all, range_with_len}
use Rattle.std.specs.Option.{option_map, option_or}
use Rattle.std.specs.declared.option.Option.{Option}
use Rattle.std.proofs.lemmas.Bool.{and_parts}
use Rattle.std.proofs.lemmas.List.{get_or-map, length-map}
use Rattle.std.proofs.lemmas.List.FromFn.{length-map-range_with_len, get_or-map-range_with_len, get_or-range_with_len, length-range_with_len}
use Rattle.std.proofs.lemmas.List.Sums.{AllPass-from_list_all}
use Rattle.std.proofs.lemmas.List.Elements.{All-from_get_or}
use Rattle.coding.specs.Words.{IsByte, IsCodeword}
use Rattle.coding.specs.Nearest.{near_of, vanishes_at_all}
use Rattle.rs_decode.proofs.NearSearch.{near_of-is_near, vanishing-codeword}
use Rattle.coding.specs.Product.{IsProduct, column, line}
use Rattle.dvd_block.proofs.Columns.{length-column}
use Rattle.coding.specs.TwoPass.{from_columns}
use Rattle.dvd_capture.proofs.Columns.{column-from_columns, from_columns-line, length-from_columns}
use Rattle.dvd_deep.specs.Rounds.{State, after_rounds, are_answered, column_marks, column_near, column_step, deep_block, failed_marks, finishes, first_round, mark_in, round, row_near, row_step, state_in}
use Rattle.dvd_deep.specs.Laws.{WhatIsFoundIsProduct}
use Rattle.dvd_deep.specs.Inner.Steps.{column_then, row_then}
use Rattle.dvd_deep.proofs.Searches.{after_rounds-next, finishes-by}

-- ---- tests of lists

-- a test of all numbers below n tests each
pub tested-at : (test : ℕ → Bool) (n k : ℕ) → k < n → list_all test (range_with_len 0 n) ≡ true → test k ≡ true
tested-at test n k below passes =
    let here : k < length (range_with_len 0 n) = rw length-range_with_len below in
    let same : 0 + k ≡ k = omega arith in
    subst (λ i. test i ≡ true) (get_or-range_with_len 0 n k 0 below ∙ same) (AllPass-from_list_all test (range_with_len 0 n) passes k 0 here)

-- ---- the sizes of a state after a row step

-- a row step leaves 208 rows
pub row_step-height : (state : State) → length (row_step state).rows ≡ 208
unfolding row_step
row_step-height state = length-map-range_with_len (row_then state) 0 208

-- each row has failed or not
pub length-failed : (state : State) → length (failed_marks state) ≡ 208
unfolding failed_marks
length-failed state = length-map-range_with_len (λ i. is_none (row_near state i)) 0 208

-- a column has 208 marks
pub length-column_marks : (marks : List (List Bool)) (j : ℕ) → length (column_marks marks j) ≡ 208
unfolding column_marks
length-column_marks marks j = length-map-range_with_len (λ i. mark_in marks i j) 0 208

-- ---- an answered column

-- what holds of the word that either try finds holds of the word that two tries find
pub by_tries : (P : List ℕ → Type 0) (first second : Option (List ℕ)) → ((word : List ℕ) → first ≡ Some word → P word) → ((word : List ℕ) → second ≡ Some word → P word)
    → (word : List ℕ) → option_or first second ≡ Some word → P word
by_tries P None second one other word is = other word is
by_tries P (Some found) second one other word is = one word is

-- the codeword near a column is a codeword of 208 bytes
pub near-codeword : (failed : List Bool) (state : State) (j : ℕ) (word : List ℕ) → length state.rows ≡ 208 → length failed ≡ 208
    → column_near failed state j ≡ Some word → IsCodeword 208 16 word
near-codeword failed state j word height size is =
    let width : length (column state.rows j) ≡ 208 = length-column state.rows j ∙ height in
    by_tries (IsCodeword 208 16) (near_of 208 16 (column state.rows j) failed) (near_of 208 16 (column state.rows j) (column_marks state.marks j))
    (λ found first. (near_of-is_near 208 16 (column state.rows j) found failed width size first).codeword)
    (λ found second. (near_of-is_near 208 16 (column state.rows j) found (column_marks state.marks j) width (length-column_marks state.marks j) second).codeword)
    word is

-- so is what becomes of an answered column
found-codeword : (failed : List Bool) (state : State) (j : ℕ) (found : Option (List ℕ)) → length state.rows ≡ 208 → length failed ≡ 208
    → column_near failed state j ≡ found → is_some found ≡ true → IsCodeword 208 16 (unwrap_or found (column state.rows j))
found-codeword failed state j None height size is answered = absurd (true≢false (sym answered))
found-codeword failed state j (Some word) height size is answered = near-codeword failed state j word height size is

-- each column becomes a codeword where all are answered
pub then-codeword : (failed : List Bool) (state : State) (j : ℕ) → length state.rows ≡ 208 → length failed ≡ 208 → j < 182 → are_answered failed state ≡ true
    → IsCodeword 208 16 (column_then failed state j)
unfolding are_answered
then-codeword failed state j height size below answered =
    found-codeword failed state j (column_near failed state j) height size refl (tested-at (λ k. is_some (column_near failed state k)) 182 j below answered)

-- the new columns of a column step
abbrev pub words_then : List Bool → State → List (List ℕ)
words_then failed state = map (column_then failed state) (range_with_len 0 182)

-- the rows that a column step leaves are those of the new columns
pub column_step-rows : (failed : List Bool) (state : State) → (column_step failed state).rows ≡ from_columns (words_then failed state)
unfolding column_step
column_step-rows failed state = refl

-- new column j is what becomes of column j
pub word-then : (failed : List Bool) (state : State) (j : ℕ) → j < 182 → get_or (words_then failed state) j [] ≡ column_then failed state j
word-then failed state j below = get_or-map-range_with_len (column_then failed state) 0 182 j j [] below (omega arith)

-- ---- a block of codewords

-- columns that are codewords and whose rows pass the test are a product block
pub tested-product : (words : List (List ℕ)) → length words ≡ 182 → ((j : ℕ) → j < 182 → IsCodeword 208 16 (get_or words j []))
    → list_all (vanishes_at_all 10) (from_columns words) ≡ true → IsProduct (from_columns words)
tested-product words size codewords passes = record {
  height = length-from_columns words;
  rows = All-from_get_or (IsCodeword 182 10) (from_columns words) []
      (λ i within.
      let below : i < 208 = omega (arith, length-from_columns words) in
      vanishing-codeword 182 10 (line (from_columns words) i)
      (ap length (from_columns-line words i below) ∙ length-map words (λ word. slice_index word i) ∙ size)
      (row-bytes i below)
      (AllPass-from_list_all (vanishes_at_all 10) (from_columns words) passes i [] within));
  columns = λ j below.
      subst (IsCodeword 208 16) (sym (column-from_columns words j (omega (arith, size)) (codewords j below).size)) (codewords j below);
} where
  -- each row is of bytes
  row-bytes : (i : ℕ) → i < 208 → All IsByte (line (from_columns words) i)
  row-bytes i below =
      subst (All IsByte) (sym (from_columns-line words i below))
      (All-from_get_or IsByte (map (λ word. slice_index word i) words) 0
      (λ j within.
      let inside : j < length words = subst (λ n. j < n) (length-map words (λ word. slice_index word i)) within in
      let codeword = codewords j (omega (arith, size)) in
      subst IsByte (sym (get_or-map (λ word. slice_index word i) words j [] 0 inside)) (codeword.bytes i 0 (omega (arith, codeword.size)))))

-- the rows that a round leaves
pub round-rows : (state : State) → (round state).rows ≡ from_columns (words_then (failed_marks state) (row_step state))
unfolding round
round-rows state = column_step-rows (failed_marks state) (row_step state)

-- all columns are answered in a round that finishes
pub finished-answered : (state : State) → finishes state ≡ true → are_answered (failed_marks state) (row_step state) ≡ true
finished-answered state done =
    (and_parts (are_answered (failed_marks state) (row_step state)) (list_all (vanishes_at_all 10) (round state).rows) (sym (finishes-by state) ∙ done)).0

-- and it leaves a product block
pub finished-product : (state : State) → finishes state ≡ true → IsProduct (round state).rows
finished-product state done =
    let tests = and_parts (are_answered (failed_marks state) (row_step state)) (list_all (vanishes_at_all 10) (round state).rows) (sym (finishes-by state) ∙ done) in
    let rows_are : (round state).rows ≡ from_columns (words_then (failed_marks state) (row_step state)) = round-rows state in
    subst IsProduct (sym rows_are)
    (tested-product (words_then (failed_marks state) (row_step state)) (length-map-range_with_len (column_then (failed_marks state) (row_step state)) 0 182)
    (λ j below.
    subst (IsCodeword 208 16) (sym (word-then (failed_marks state) (row_step state) j below))
    (then-codeword (failed_marks state) (row_step state) j (row_step-height state) (length-failed state) below tests.0))
    (ap (list_all (vanishes_at_all 10)) (sym rows_are) ∙ tests.1))

-- ---- the first round that finishes

-- what a search among numbers finds passes
found-step : (test : ℕ → Bool) (a t : ℕ) (rest : Option ℕ) (b : Bool) → test a ≡ b → (rest ≡ Some t → (a + 1 ≤ t) × (test t ≡ true)) → cond b (Some a) rest ≡ Some t
    → (a ≤ t) × (test t ≡ true)
found-step test a t rest true passes later is = let same : a ≡ t = cc in (omega (arith, same), subst (λ k. test k ≡ true) same passes)
found-step test a t rest false fails later is = let past = later is in (omega (arith, past.0), past.1)

-- a number that is found among those from a on isn't below a, and passes
found-in : (test : ℕ → Bool) (a n t : ℕ) → find test (range_with_len a n) ≡ Some t → (a ≤ t) × (test t ≡ true)
found-in test a zero t is = cc
found-in test a (suc n) t is = found-step test a t (find test (range_with_len (a + 1) n)) (test a) refl (found-in test (a + 1) n t) is

-- the state before the round that gives a block back
pub record IsLastRound (state : State) (block : List (List ℕ)) : Type 0 where
  pub rounds : ℕ
  pub done : finishes (after_rounds rounds state) ≡ true
  pub gives : (round (after_rounds rounds state)).rows ≡ block

-- where a round finishes with a block, the state before it is the last
last-of : (state : State) (block : List (List ℕ)) (found : Option ℕ) → first_round state ≡ found → option_map (λ t. (after_rounds t state).rows) found ≡ Some block
    → IsLastRound state block
unfolding first_round
last-of state block None is gives = cc
last-of state block (Some t) is gives =
    let passes = found-in (λ t. finishes (after_rounds (t - 1) state)) 1 4 t is in
    let rows_are : (after_rounds t state).rows ≡ block = cc in
    record { rounds = t - 1; done = passes.1; gives = ap (λ (s : State). s.rows) (sym (after_rounds-next state t passes.0)) ∙ rows_are }

-- a block that rounds give back has such a state
pub last_round : (received : List (List ℕ)) (marks : List (List Bool)) (block : List (List ℕ)) → deep_block received marks ≡ Some block
    → IsLastRound (state_in received marks) block
last_round received marks block is = last-of (state_in received marks) block (first_round (state_in received marks)) refl is

-- Whatever block is given back is a product codeword.
pub found_is_product : WhatIsFoundIsProduct
found_is_product received marks block is =
    let last = last_round received marks block is in
    subst IsProduct last.gives (finished-product (after_rounds last.rounds (state_in received marks)) last.done)
