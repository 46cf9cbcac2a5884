-- The column step, one column after the other.
use Rattle.std.proofs.Common.{◌≡◌, ◌≢◌, ◌∙◌, ℕ, ◌+◌, ◌<◌, Bool, false, ◌&&◌, true≢false, cond, List, [], ◌∷◌, length, map, get_or, set, slice_index, unwrap_or, inl, inr, refl, sym, ap, arith, Some, None, is_some}
use Rattle.std.specs.List.{list_all, range_with_len}
use Rattle.std.specs.Option.{option_or}
use Rattle.std.specs.declared.option.Option.{Option}
use Rattle.std.proofs.lemmas.Bool.{cases_eq}
use Rattle.std.proofs.lemmas.List.{get_or-map, get_or-set_other, get_or-set_same, length-map, ext_get_or}
use Rattle.std.proofs.lemmas.List.FromFn.{fill_by_all, length-map-range_with_len, get_or-map-range_with_len}
use Rattle.std.proofs.lemmas.Grind.{same_number_lists}
use Rattle.coding.specs.Filling.{marked}
use Rattle.coding.specs.Nearest.{near_of}
use Rattle.coding.specs.Product.{column, line, place}
use Rattle.rs_decode.proofs.Counting.{counts-from_near}
use Rattle.rs_decode.proofs.NearSearch.{none-near_of}
use Rattle.dvd_block.proofs.Columns.{get_or-column, length-column}
use Rattle.dvd_capture.specs.Answers.{marks_line}
use Rattle.coding.specs.TwoPass.{from_columns}
use Rattle.dvd_capture.proofs.Columns.{from_columns-line, length-from_columns}
use Rattle.dvd_deep.specs.Rounds.{State, are_answered, column_marks, column_near, column_step, mark_in, state_in}
use Rattle.dvd_deep.specs.Inner.Steps.{AreMarksTaken, AreStepped, AreTold, AreWide, IsColumnPut, column_then}

-- what becomes of the mark of column j in row i
abbrev pub mark_then : List Bool → State → ℕ → ℕ → Bool
mark_then failed state i j = cond (is_some (column_near failed state j)) false (mark_in state.marks i j)

-- columns of the same bytes are the same
pub same-column : (a b : List (List ℕ)) (j : ℕ) → length a ≡ 208 → length b ≡ 208 → ((i : ℕ) → i < 208 → place a i j ≡ place b i j) → column a j ≡ column b j
same-column a b j size_a size_b same =
    same_number_lists (column a j) (column b j) (length-column a j ∙ size_a ∙ sym (length-column b j ∙ size_b))
    (λ i within.
    let below : i < 208 = omega (arith, length-column a j, size_a) in
    get_or-column a j i ∙ same i below ∙ sym (get_or-column b j i))

-- flags that are the marks of column j, row by row, are its marks
pub marks-read : (marks : List (List Bool)) (j : ℕ) (own : List Bool) → length own ≡ 208 → ((i : ℕ) → i < 208 → get_or own i false ≡ mark_in marks i j)
    → own ≡ column_marks marks j
unfolding column_marks
marks-read marks j own size read = fill_by_all (λ i. mark_in marks i j) own 208 false size read

-- a column has a mark for each row
pub length-column_marks : (marks : List (List Bool)) (j : ℕ) → length (column_marks marks j) ≡ 208
unfolding column_marks
length-column_marks marks j = length-map-range_with_len (λ i. mark_in marks i j) 0 208

-- with more than sixteen marks no codeword is near a column
pub many-none : (word : List ℕ) (marks : List Bool) → length word ≡ 208 → length marks ≡ 208 → 16 < marked marks → near_of 208 16 word marks ≡ None
many-none word marks size marks_size many =
    none-near_of 208 16 word marks size marks_size (λ near is. absurd (omega (arith, many, counts-from_near 208 16 word near marks is)))

-- to test what numbers give is to test the numbers
list_all-map : (test : ℕ → Bool) (ns : List ℕ) → list_all (λ is. is) (map test ns) ≡ list_all test ns
list_all-map test [] = refl
list_all-map test (n ∷ ns) = ap (λ b. test n && b) (list_all-map test ns)

-- the column that comes next is as it was
pub next-near : (failed : List Bool) (state : State) (rows : List (List ℕ)) (j : ℕ) → length state.rows ≡ 208 → length rows ≡ 208 → j < 182
    → AreStepped failed state rows j → (column rows j ≡ column state.rows j) × (column_near failed (state_in rows state.marks) j ≡ column_near failed state j)
next-near failed state rows j height rows_height below part =
    let same : column rows j ≡ column state.rows j = same-column rows state.rows j rows_height height (λ i i_below. part.left i j i_below (omega arith) below) in
    let own : List Bool = column_marks state.marks j in
    (same, ap (λ (word : List ℕ). option_or (near_of 208 16 word failed) (near_of 208 16 word own)) same)

-- one column more
pub columns-next : (failed : List Bool) (state : State) (rows rows_new : List (List ℕ)) (j : ℕ)
    → length state.rows ≡ 208 → length rows ≡ 208 → j < 182 → IsColumnPut j (column_then failed (state_in rows state.marks) j) rows rows_new → AreWide rows_new
    → AreStepped failed state rows j → AreStepped failed state rows_new (j + 1)
columns-next failed state rows rows_new j height rows_height below put wide part =
    let next = next-near failed state rows j height rows_height below part in
    let then : column_then failed (state_in rows state.marks) j ≡ column_then failed state j =
    ap (λ (found : Option (List ℕ)). unwrap_or found (column rows j)) next.1 ∙ ap (unwrap_or (column_near failed state j)) next.0 in
    record {
      wide = wide;
      done = λ i k i_below k_below. elim (cases_eq k j) [
        | inl k_is ↦
            ap (place rows_new i) k_is ∙ put.here i i_below ∙ ap (λ (word : List ℕ). slice_index word i) then
            ∙ ap (λ n. slice_index (column_then failed state n) i) (sym k_is)
        | inr other ↦ put.others i k i_below (omega arith) other ∙ part.done i k i_below (omega arith)
      ];
      left = λ i k i_below from k_below.
          let other : k ≢ j = λ equal. omega (arith, equal) in
          put.others i k i_below k_below other ∙ part.left i k i_below (omega arith) k_below;
    }

pub told-next : (failed : List Bool) (state : State) (answered : List Bool) (j : ℕ) (found : Bool) → length answered ≡ 182 → j < 182
    → found ≡ is_some (column_near failed state j) → AreTold failed state answered j → AreTold failed state (set answered j found) (j + 1)
told-next failed state answered j found size below is said = λ k k_below. elim (cases_eq k j) [
  | inl same ↦
      ap (λ n. get_or (set answered j found) n false) same ∙ get_or-set_same answered j found false (omega (arith, size)) ∙ is
      ∙ ap (λ n. is_some (column_near failed state n)) (sym same)
  | inr apart ↦ get_or-set_other answered j k found false apart ∙ said k (omega arith)
]

-- the marks that are left are those of the columns without an answer
pub marks-left : (failed : List Bool) (state : State) (answered : List Bool) (marks : List (List Bool)) → AreTold failed state answered 182
    → AreMarksTaken answered state.marks marks → (i k : ℕ) → i < 208 → k < 182 → mark_in marks i k ≡ mark_then failed state i k
marks-left failed state answered marks said taken i k below inside =
    taken i k below inside ∙ ap (λ b. cond b false (mark_in state.marks i k)) (said k inside)

-- no column has had its step
pub none-put : (failed : List Bool) (rows : List (List ℕ)) (marks : List (List Bool)) → AreWide rows → AreStepped failed (state_in rows marks) rows 0
none-put failed rows marks wide = record {
  wide = wide;
  done = λ i k below inside. absurd (omega arith);
  left = λ i k below from inside. refl;
}

-- the flags of all columns say whether every column is answered
pub told-all : (failed : List Bool) (state : State) (answered : List Bool) → length answered ≡ 182 → AreTold failed state answered 182
    → list_all (λ is. is) answered ≡ are_answered failed state
unfolding are_answered
told-all failed state answered size said =
    let flags : answered ≡ map (λ j. is_some (column_near failed state j)) (range_with_len 0 182) = fill_by_all (λ j. is_some (column_near failed state j)) answered 182 false size said in
    ap (list_all (λ is. is)) flags ∙ list_all-map (λ j. is_some (column_near failed state j)) (range_with_len 0 182)

-- all columns
pub columns-all : (failed : List Bool) (state : State) (rows : List (List ℕ)) (marks : List (List Bool)) → length rows ≡ 208 → length marks ≡ 208
    → ((i : ℕ) → i < 208 → length (marks_line marks i) ≡ 182) → AreStepped failed state rows 182
    → ((i k : ℕ) → i < 208 → k < 182 → mark_in marks i k ≡ mark_then failed state i k) → state_in rows marks ≡ column_step failed state
unfolding column_step
columns-all failed state rows marks height marks_height marks_wide part left =
    ap (λ l. state_in l marks) rows_are ∙ ap (state_in (from_columns words)) marks_are where
      -- the new columns
      words : List (List ℕ)
      words = map (column_then failed state) (range_with_len 0 182)

      -- row i of the new columns
      row-is : (i : ℕ) → i < 208 → line rows i ≡ line (from_columns words) i
      row-is i below =
          same_number_lists (line rows i) (map (λ word. slice_index word i) words)
          (part.wide i below ∙ sym (length-map words (λ word. slice_index word i) ∙ length-map-range_with_len (column_then failed state) 0 182))
          (λ k within.
          let inside : k < 182 = omega (arith, part.wide i below) in
          let words_within : k < length words = omega (arith, length-map-range_with_len (column_then failed state) 0 182) in
          part.done i k below inside
          ∙ sym (get_or-map (λ word. slice_index word i) words k [] 0 words_within
          ∙ ap (λ (word : List ℕ). slice_index word i) (get_or-map-range_with_len (column_then failed state) 0 182 k k [] inside (omega arith))))
          ∙ sym (from_columns-line words i below)

      -- the rows are those of the new columns
      rows_are : rows ≡ from_columns words
      rows_are =
          ext_get_or [] rows (from_columns words) (height ∙ sym (length-from_columns words))
          (λ i within. let below : i < 208 = omega (arith, height) in row-is i below)

      -- the marks are those that are left
      marks_are : marks ≡ map (λ i. map (mark_then failed state i) (range_with_len 0 182)) (range_with_len 0 208)
      marks_are =
          fill_by_all (λ i. map (mark_then failed state i) (range_with_len 0 182)) marks 208 [] marks_height
          (λ i below. fill_by_all (mark_then failed state i) (marks_line marks i) 182 false (marks_wide i below) (λ k inside. left i k below inside))

-- a column without an answer stays
pub unanswered-put : (found : Option (List ℕ)) (rows : List (List ℕ)) (j : ℕ) → length rows ≡ 208 → is_some found ≡ false
    → IsColumnPut j (unwrap_or found (column rows j)) rows rows
unanswered-put None rows j height none = record {
  here = λ i below. sym (get_or-column rows j i);
  others = λ i k below inside other. refl;
}
unanswered-put (Some word) rows j height none = absurd (true≢false none)
