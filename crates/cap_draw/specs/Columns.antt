-- The blocks that share a column of a picture.
use Rattle.std.specs.Prelude.{ℕ, ◌+◌, ◌-◌, List, length, count_by, slice_range}
use Rattle.cap_survey.specs.Totals.{failed_in_cell, greatest_of, refused_of, sum8_of}
use Rattle.cap_survey.specs.declared.cell.Cell.{Cell}
use Rattle.cap_draw.specs.Plot.{share}
use Rattle.cap_draw.specs.declared.column.Column.{Column}
use Rattle.cap_draw.specs.declared.plot.Plot.{Plot}

-- the blocks of column c
abbrev pub column_blocks : List Cell → Plot → ℕ → List Cell
column_blocks cells plot c = slice_range cells (share c (length cells) plot.columns) (share (c + 1) (length cells) plot.columns)

-- Column c: blocks and width are shared among the columns as evenly as whole numbers allow. It shows the greatest sum
-- of eight and the greatest number of failed rows of its blocks, and how many of them are refused.
abbrev pub column_of : List Cell → Plot → ℕ → Column
column_of cells plot c = record {
  first = share c (length cells) plot.columns;
  blocks = share (c + 1) (length cells) plot.columns - share c (length cells) plot.columns;
  x = share c plot.width plot.columns;
  width = share (c + 1) plot.width plot.columns - share c plot.width plot.columns;
  sum8 = greatest_of sum8_of (column_blocks cells plot c);
  failed = greatest_of failed_in_cell (column_blocks cells plot c);
  refused = count_by refused_of (column_blocks cells plot c);
}
