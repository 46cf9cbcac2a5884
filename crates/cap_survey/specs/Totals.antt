-- The totals over blocks.
use Rattle.std.specs.Prelude.{ℕ, ◌==◌, not, nat_lt, max, Bool, List, length, sum_by, count_by}
use Rattle.std.specs.List.{fold, prefix_len}
use Rattle.cap_survey.specs.declared.cell.Cell.{Cell}
use Rattle.cap_survey.specs.declared.totals.Totals.{Totals}

-- the counts of a block
abbrev pub sum8_of : Cell → ℕ
sum8_of cell = cell.sum8

abbrev pub pi_of : Cell → ℕ
pi_of cell = cell.pi

abbrev pub failed_in_cell : Cell → ℕ
failed_in_cell cell = cell.failed

abbrev pub refused_of : Cell → Bool
refused_of cell = cell.refused

-- more PI error rows in eight blocks than ECMA-267 allows
abbrev pub is_over : Cell → Bool
is_over cell = nat_lt 280 cell.sum8

-- how many blocks come before the first that passes a test
abbrev pub before_first : (Cell → Bool) → List Cell → ℕ
before_first passes = prefix_len (λ cell. not (passes cell))

-- the greatest count of several blocks, and 0 of none
abbrev pub greatest_of : (Cell → ℕ) → List Cell → ℕ
greatest_of count cells = fold (λ most cell. max (count cell) most) 0 cells

-- The totals. The peak is the greatest sum of eight, at the first block that has it; `over` counts the sums above 280.
abbrev pub totals_of : List Cell → Totals
totals_of cells = record {
  blocks = length cells;
  pi = sum_by pi_of cells;
  failed = sum_by failed_in_cell cells;
  damaged = count_by refused_of cells;
  peak = greatest_of sum8_of cells;
  peak_at = before_first (λ cell. sum8_of cell == greatest_of sum8_of cells) cells;
  over = count_by is_over cells;
}
