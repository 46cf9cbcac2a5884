-- Where the unmarked bytes are those of a product block, each codeword that is found is a row or a column of it.
use Rattle.std.proofs.Common.{◌≡◌, ◌∙◌, ℕ, zero, suc, ◌<◌, ◌≤◌, Bool, true, false, true≢false, cond, List, [], length, map, get_or, replicate, slice_index, unwrap_or, refl, sym, ap, arith, Some, None, is_none, is_some}
use Rattle.std.specs.List.{range_with_len}
use Rattle.std.specs.declared.option.Option.{Option}
use Rattle.std.proofs.lemmas.List.{get_or-map, length-map, length-replicate}
use Rattle.std.proofs.lemmas.List.FromFn.{length-map-range_with_len, get_or-map-range_with_len}
use Rattle.coding.specs.Words.{IsCodeword, IsNear, cost}
use Rattle.coding.specs.Filling.{AgreeUnmarked, marked}
use Rattle.coding.specs.Nearest.{near_of}
use Rattle.rs_decode.proofs.OneNear.{filling_near, near_once}
use Rattle.rs_decode.proofs.NearSearch.{near_of-is_near}
use Rattle.coding.specs.Product.{IsProduct, column, line, place}
use Rattle.dvd_block.proofs.Columns.{get_or-column, length-column}
use Rattle.dvd_capture.specs.Answers.{marks_line}
use Rattle.dvd_capture.proofs.Bound.{marked-cost}
use Rattle.dvd_capture.proofs.Columns.{from_columns-line, from_columns-product}
use Rattle.dvd_deep.specs.Laws.{TrueBytesGiveTheBlock}
use Rattle.dvd_deep.specs.Rounds.{State, after_rounds, are_answered, column_marks, column_near, column_step, failed_marks, finishes, mark_in, round, row_near, row_step, state_in}
use Rattle.dvd_deep.specs.Inner.Steps.{AreWide}
use Rattle.dvd_deep.specs.Inner.Steps.{column_then, marks_then}
use Rattle.dvd_deep.proofs.ColumnStep.{mark_then}
use Rattle.dvd_deep.proofs.RoundOne.{row_step-line}
use Rattle.dvd_deep.proofs.Products.{by_tries, finished-answered, last_round, length-column_marks, length-failed, round-rows, row_step-height, tested-at, word-then, words_then}

-- the state has the bytes of this block at each place that isn't marked
pub record IsTrueTo (block : List (List ℕ)) (state : State) : Type 0 where
  pub wide : AreWide state.rows
  pub marks_wide : (i : ℕ) → i < 208 → length (marks_line state.marks i) ≡ 182
  pub bytes : (i j : ℕ) → i < 208 → j < 182 → mark_in state.marks i j ≡ false → place state.rows i j ≡ place block i j

-- a codeword near a word whose unmarked bytes are another's is that other one
near-true : (n r : ℕ) (received word truth : List ℕ) (marks : List Bool) → n ≤ 255 → IsCodeword n r truth → IsNear n r received marks word
    → AgreeUnmarked marks received truth → word ≡ truth
near-true n r received word truth marks short codeword near agree =
    let few : marked marks ≤ cost word received marks =
    marked-cost word received marks (near.codeword.size ∙ sym near.marks_size) (near.received_size ∙ sym near.marks_size) in
    near_once n r received marks word truth short near
    (filling_near n r received marks truth near.received_size near.marks_size
    (record { codeword = codeword; agrees = agree; within = omega (arith, few, near.within) }))

-- ---- rows

-- the codeword that is found near a row is the row of the block
row-true : (block : List (List ℕ)) (state : State) (i : ℕ) (word : List ℕ) → IsProduct block → IsTrueTo block state → i < 208 → row_near state i ≡ Some word
    → word ≡ line block i
row-true block state i word product are below is =
    near-true 182 10 (line state.rows i) word (line block i) (marks_line state.marks i) (omega arith) (product.rows i [] (omega (arith, product.height)))
    (near_of-is_near 182 10 (line state.rows i) word (marks_line state.marks i) (are.wide i below) (are.marks_wide i below) is)
    (λ k within clear. sym (are.bytes i k below (omega (arith, are.marks_wide i below)) clear))

-- what holds of row i and its marks after the row step
abbrev RowIs : (block : List (List ℕ)) (state : State) (i : ℕ) → Option (List ℕ) → Type 0
RowIs block state i found =
    (length (unwrap_or found (line state.rows i)) ≡ 182)
    × (length (cond (is_some found) (replicate 182 false) (marks_line state.marks i)) ≡ 182)
    × (is_none found ≡ false → unwrap_or found (line state.rows i) ≡ line block i)
    × ((j : ℕ) → j < 182 → get_or (cond (is_some found) (replicate 182 false) (marks_line state.marks i)) j false ≡ false
    → slice_index (unwrap_or found (line state.rows i)) j ≡ place block i j)

-- a row that is answered becomes that of the block, and all bytes that are unmarked then are the block's
row-by : (block : List (List ℕ)) (state : State) (i : ℕ) (found : Option (List ℕ)) → IsProduct block → IsTrueTo block state → i < 208 → row_near state i ≡ found
    → RowIs block state i found
row-by block state i None product are below is =
    (are.wide i below, are.marks_wide i below, λ answered. absurd (true≢false answered), λ j inside clear. are.bytes i j below inside clear)
row-by block state i (Some word) product are below is =
    let same : word ≡ line block i = row-true block state i word product are below is in
    (ap length same ∙ (product.rows i [] (omega (arith, product.height))).size, length-replicate 182 false, λ answered. same, λ j inside clear. ap (λ row. slice_index row j) same)

-- the marks that a row step leaves in row i
row_step-marks : (state : State) (i : ℕ) → i < 208 → marks_line (row_step state).marks i ≡ marks_then state i
unfolding row_step
row_step-marks state i below = get_or-map-range_with_len (marks_then state) 0 208 i i [] below (omega arith)

-- row i has failed where no codeword is near it
failed-at : (state : State) (i : ℕ) → i < 208 → get_or (failed_marks state) i false ≡ is_none (row_near state i)
unfolding failed_marks
failed-at state i below = get_or-map-range_with_len (λ k. is_none (row_near state k)) 0 208 i i false below (omega arith)

-- a row step keeps the unmarked bytes those of the block
rows-true : (block : List (List ℕ)) (state : State) → IsProduct block → IsTrueTo block state → IsTrueTo block (row_step state)
rows-true block state product are = record {
  wide = λ i below. ap length (row_step-line state i below) ∙ (row-by block state i (row_near state i) product are below refl).0;
  marks_wide = λ i below. ap length (row_step-marks state i below) ∙ (row-by block state i (row_near state i) product are below refl).1;
  bytes = λ i j below inside clear.
      ap (λ (row : List ℕ). slice_index row j) (row_step-line state i below)
      ∙ (row-by block state i (row_near state i) product are below refl).3 j inside (ap (λ (marks : List Bool). get_or marks j false) (sym (row_step-marks state i below)) ∙ clear);
}

-- a row that didn't fail is the block's
row-found : (block : List (List ℕ)) (state : State) (i : ℕ) → IsProduct block → IsTrueTo block state → i < 208 → get_or (failed_marks state) i false ≡ false
    → line (row_step state).rows i ≡ line block i
row-found block state i product are below clear =
    row_step-line state i below ∙ (row-by block state i (row_near state i) product are below refl).2 (sym (failed-at state i below) ∙ clear)

-- ---- columns

-- mark i of a column is the mark of row i at its place
column_marks-at : (marks : List (List Bool)) (j i : ℕ) → i < 208 → get_or (column_marks marks j) i false ≡ mark_in marks i j
unfolding column_marks
column_marks-at marks j i below = get_or-map-range_with_len (λ k. mark_in marks k j) 0 208 i i false below (omega arith)

-- the codeword that is found near a column is the column of the block
column-true : (block : List (List ℕ)) (state : State) (j : ℕ) (word : List ℕ) → IsProduct block → IsTrueTo block state → j < 182
    → column_near (failed_marks state) (row_step state) j ≡ Some word → word ≡ column block j
column-true block state j word product are inside is =
    by_tries (λ found. found ≡ column block j) (near_of 208 16 (column stepped.rows j) (failed_marks state)) (near_of 208 16 (column stepped.rows j) (column_marks stepped.marks j))
    (λ found first.
    near-true 208 16 (column stepped.rows j) found (column block j) (failed_marks state) (omega arith) codeword
    (near_of-is_near 208 16 (column stepped.rows j) found (failed_marks state) width (length-failed state) first)
    (λ k within clear.
    let below : k < 208 = omega (arith, length-failed state) in
    at-place k below (ap (λ (row : List ℕ). slice_index row j) (row-found block state k product are below clear))))
    (λ found second.
    near-true 208 16 (column stepped.rows j) found (column block j) (column_marks stepped.marks j) (omega arith) codeword
    (near_of-is_near 208 16 (column stepped.rows j) found (column_marks stepped.marks j) width (length-column_marks stepped.marks j) second)
    (λ k within clear.
    let below : k < 208 = omega (arith, length-column_marks stepped.marks j) in
    at-place k below ((rows-true block state product are).bytes k j below inside (sym (column_marks-at stepped.marks j k below) ∙ clear))))
    word is where
      -- the state after the row step
      stepped : State
      stepped = row_step state

      -- the column of the block is a codeword
      codeword : IsCodeword 208 16 (column block j)
      codeword = product.columns j inside

      -- the column has 208 bytes after the row step
      width : length (column (row_step state).rows j) ≡ 208
      width = length-column (row_step state).rows j ∙ row_step-height state

      -- places that have the same byte have it in their columns
      at-place : (k : ℕ) → k < 208 → place (row_step state).rows k j ≡ place block k j → slice_index (column block j) k ≡ slice_index (column (row_step state).rows j) k
      at-place k below same =
          get_or-column block j k ∙ sym same ∙ sym (get_or-column (row_step state).rows j k)

-- what becomes of a place of a column
place-by : (block : List (List ℕ)) (state : State) (i j : ℕ) (found : Option (List ℕ)) → IsProduct block → IsTrueTo block state → i < 208 → j < 182
    → column_near (failed_marks state) (row_step state) j ≡ found → cond (is_some found) false (mark_in (row_step state).marks i j) ≡ false
    → slice_index (unwrap_or found (column (row_step state).rows j)) i ≡ place block i j
place-by block state i j None product are below inside is clear =
    get_or-column (row_step state).rows j i ∙ (rows-true block state product are).bytes i j below inside clear
place-by block state i j (Some word) product are below inside is clear =
    ap (λ word. slice_index word i) (column-true block state j word product are inside is) ∙ get_or-column block j i

-- the marks that a column step leaves in row i
column_step-marks : (failed : List Bool) (state : State) (i : ℕ) → i < 208 → marks_line (column_step failed state).marks i ≡ map (mark_then failed state i) (range_with_len 0 182)
unfolding column_step
column_step-marks failed state i below = get_or-map-range_with_len (λ k. map (mark_then failed state k) (range_with_len 0 182)) 0 208 i i [] below (omega arith)

-- and those that a round leaves there
round-marks : (state : State) (i : ℕ) → i < 208 → marks_line (round state).marks i ≡ map (mark_then (failed_marks state) (row_step state) i) (range_with_len 0 182)
unfolding round
round-marks state i below = column_step-marks (failed_marks state) (row_step state) i below

-- row i of a round is made of byte i of each new column
round-line : (state : State) (i : ℕ) → i < 208 → line (round state).rows i ≡ map (λ word. slice_index word i) (words_then (failed_marks state) (row_step state))
round-line state i below = ap (λ rows. line rows i) (round-rows state) ∙ from_columns-line (words_then (failed_marks state) (row_step state)) i below

-- a round keeps the unmarked bytes those of the block
round-true : (block : List (List ℕ)) (state : State) → IsProduct block → IsTrueTo block state → IsTrueTo block (round state)
round-true block state product are = record {
  wide = λ i below.
      ap length (round-line state i below) ∙ length-map words (λ word. slice_index word i) ∙ length-map-range_with_len (column_then (failed_marks state) (row_step state)) 0 182;
  marks_wide = λ i below.
      ap length (round-marks state i below) ∙ length-map-range_with_len (mark_then (failed_marks state) (row_step state) i) 0 182;
  bytes = λ i j below inside clear.
      ap (λ row. slice_index row j) (round-line state i below)
      ∙ get_or-map (λ word. slice_index word i) words j [] 0 (omega (arith, length-map-range_with_len (column_then (failed_marks state) (row_step state)) 0 182))
      ∙ ap (λ word. slice_index word i) (word-then (failed_marks state) (row_step state) j inside)
      ∙ place-by block state i j (column_near (failed_marks state) (row_step state) j) product are below inside refl
      (sym (ap (λ marks. get_or marks j false) (round-marks state i below)
      ∙ get_or-map-range_with_len (mark_then (failed_marks state) (row_step state) i) 0 182 j j false inside (omega arith)) ∙ clear);
} where
  -- the new columns
  words : List (List ℕ)
  words = words_then (failed_marks state) (row_step state)

-- so does any number of rounds
after_rounds-true : (block : List (List ℕ)) (state : State) (n : ℕ) → IsProduct block → IsTrueTo block state → IsTrueTo block (after_rounds n state)
unfolding after_rounds
after_rounds-true block state zero product are = are
after_rounds-true block state (suc n) product are = round-true block (after_rounds n state) product (after_rounds-true block state n product are)

-- ---- the block that is given back

-- what becomes of an answered column is the column of the block
column-given : (block : List (List ℕ)) (state : State) (j : ℕ) (found : Option (List ℕ)) → IsProduct block → IsTrueTo block state → j < 182
    → column_near (failed_marks state) (row_step state) j ≡ found → is_some found ≡ true → unwrap_or found (column (row_step state).rows j) ≡ column block j
column-given block state j None product are inside is answered = absurd (true≢false (sym answered))
column-given block state j (Some word) product are inside is answered = column-true block state j word product are inside is

-- a round that finishes gives the block back
round-given : (block : List (List ℕ)) (state : State) → IsProduct block → IsTrueTo block state → finishes state ≡ true → (round state).rows ≡ block
unfolding are_answered
round-given block state product are done =
    round-rows state
    ∙ from_columns-product block (words_then (failed_marks state) (row_step state)) product (length-map-range_with_len (column_then (failed_marks state) (row_step state)) 0 182)
    (λ j inside.
    word-then (failed_marks state) (row_step state) j inside
    ∙ column-given block state j (column_near (failed_marks state) (row_step state) j) product are inside refl
    (tested-at (λ k. is_some (column_near (failed_marks state) (row_step state) k)) 182 j inside (finished-answered state done)))

-- Where the unmarked bytes are true, no other block is given back.
pub true_block_given : TrueBytesGiveTheBlock
true_block_given received marks true_block block sizes product agree is =
    let first : IsTrueTo true_block (state_in received marks) = record {
      wide = λ i below. sizes.widths i [] (omega (arith, sizes.height));
      marks_wide = λ i below. sizes.marks_widths i [] (omega (arith, sizes.marks_height));
      bytes = λ i j below inside clear. sym (agree i below j (omega (arith, sizes.marks_widths i [] (omega (arith, sizes.marks_height)))) clear);
    } in
    let last = last_round received marks block is in
    sym last.gives ∙ round-given true_block (after_rounds last.rounds (state_in received marks)) product (after_rounds-true true_block (state_in received marks) last.rounds product first) last.done
