-- Blocks that are marked whole, row by row.
use Rattle.std.proofs.Common.{◌≡◌, ◌∙◌, ◌+◌, ◌*◌, ◌≤◌, ℕ, zero, suc, Bool, true, false, List, [], ◌∷◌, ◌++◌, length, map, replicate, refl, add-one, arith, length-append, length-drop, drop}
use Rattle.dvd_capture.specs.MarkBits.{is_other, mark_bytes, number_of_marks}
use Rattle.cap_interleave.specs.Blocks.{block_written, lost_block, lost_row, lost_rows}

-- the mark bytes of a row that is marked whole
pub whole_bits : mark_bytes (map (is_other 0) (replicate 182 1)) ≡ replicate 22 255 ++ 252 ∷ []
unfolding mark_bytes number_of_marks
whole_bits = refl

pub rows_none : lost_rows 0 ≡ []
unfolding lost_rows
rows_none = refl

pub rows_more : (n : ℕ) → lost_rows (n + 1) ≡ lost_rows n ++ lost_row
unfolding lost_rows
rows_more n = rw (add-one n) refl

pub rows_length : (n : ℕ) → length (lost_rows n) ≡ 205 * n
unfolding lost_rows
rows_length zero = refl
rows_length (suc n) = length-append (lost_rows n) lost_row ∙ rw (rows_length n) (omega arith)

pub block_length : length lost_block ≡ 42640
block_length = rows_length 208

-- a block has as many bytes as there are at most, filled or not
pub filled_room : (fill : Bool) (own : List ℕ) → length own ≤ 42640 → length (block_written fill own) ≤ 42640
filled_room true own few = omega (arith, length-append own (drop (length own) lost_block), length-drop (length own) lost_block, block_length)
filled_room false own few = few
