-- Marks of rows by spans that agree, and frames row by row.
use Rattle.std.proofs.Common.{◌≡◌, ◌∙◌, ◌+◌, ◌*◌, ◌<◌, ◌++◌, ℕ, zero, suc, not, Bool, true, false, List, [], length, map, get_or, refl, ap, sym, arith, add-one, slice_range, slice_index}
use mir.Val.{bool_byte}
use Rattle.std.proofs.lemmas.List.{ext_get_or, get_or-map, length-map}
use Rattle.std.specs.List.{range_with_len}
use Rattle.std.proofs.lemmas.List.FromFn.{get_or-map-range_with_len, length-range_with_len}
use Rattle.cap_map.specs.declared.span.Span.{Span}
use Rattle.cap_mark.specs.Frames.{marked_row, marked_rows}
use Rattle.cap_mark.specs.Marks.{is_marked, row_mark_bytes}
use Rattle.cap_mark.specs.Walk.{AgreeFrom}
use Rattle.dvd_capture.specs.MarkBits.{is_other, mark_bytes}

-- no row, and one more
pub rows_none : (spans : List Span) (start : ℕ) (bytes : List ℕ) → marked_rows spans start bytes 0 ≡ []
unfolding marked_rows
rows_none spans start bytes = refl

pub rows_more : (spans : List Span) (start n : ℕ) (bytes : List ℕ) → marked_rows spans start bytes (n + 1) ≡ marked_rows spans start bytes n ++ marked_row spans start bytes n
unfolding marked_rows
rows_more spans start n bytes = rw (add-one n) refl

-- 182 marks that are those of a row make its mark bytes
pub row_of_marks : (marks : List Bool) (spans : List Span) (start : ℕ) → length marks ≡ 182
    → ((j : ℕ) → j < 182 → get_or marks j false ≡ is_marked spans start j) → mark_bytes marks ≡ row_mark_bytes spans start
unfolding row_mark_bytes
row_of_marks marks spans start size same =
    ap mark_bytes (ext_get_or false marks (map (is_marked spans start) (range_with_len 0 182))
    (size ∙ sym (length-map (range_with_len 0 182) (is_marked spans start) ∙ length-range_with_len 0 182))
    (λ j within.
    let below : j < 182 = omega (arith, within, size) in
    same j below ∙ sym (get_or-map-range_with_len (is_marked spans start) 0 182 j j false below (omega arith))))

-- bytes that say so of each place have these marks
pub row_of_bytes : (bytes : List ℕ) (spans : List Span) (start : ℕ) → length bytes ≡ 182
    → ((j : ℕ) → j < 182 → is_other 1 (slice_index bytes j) ≡ is_marked spans start j) → mark_bytes (map (is_other 1) bytes) ≡ row_mark_bytes spans start
row_of_bytes bytes spans start size said =
    row_of_marks (map (is_other 1) bytes) spans start (length-map bytes (is_other 1) ∙ size)
    (λ j below. get_or-map (is_other 1) bytes j 0 false (omega (arith, below, size)) ∙ said j below)

-- what a number made of a truth value says of a place
pub said-back : (rescued : Bool) → is_other 1 (bool_byte rescued) ≡ not rescued
said-back true = refl
said-back false = refl

-- the marks of a row by spans that agree from its first byte on
pub row_agree : (left spans : List Span) (start : ℕ) → AgreeFrom start left spans → row_mark_bytes left start ≡ row_mark_bytes spans start
unfolding row_mark_bytes
row_agree left spans start same =
    row_of_marks (map (is_marked left start) (range_with_len 0 182)) spans start
    (length-map (range_with_len 0 182) (is_marked left start) ∙ length-range_with_len 0 182)
    (λ j below. get_or-map-range_with_len (is_marked left start) 0 182 j j false below (omega arith) ∙ ap not (same (start + j) (omega arith)))

-- rows by spans that agree from their first byte on
pub rows_agree : (left spans : List Span) (start n : ℕ) (bytes : List ℕ) → AgreeFrom start left spans → marked_rows left start bytes n ≡ marked_rows spans start bytes n
unfolding marked_rows
rows_agree left spans start zero bytes same = refl
rows_agree left spans start (suc n) bytes same =
    ap (λ l. l ++ marked_row left start bytes n) (rows_agree left spans start n bytes same)
    ∙ ap (λ m. marked_rows spans start bytes n ++ (slice_range bytes (182 * n) (182 * n + 182) ++ m)) (row_agree left spans (start + 182 * n) (λ k above. same k (omega arith)))
