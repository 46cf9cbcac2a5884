-- The columns of a picture, as rectangles and marks.
use Rattle.std.specs.Prelude.{ℕ, zero, suc, ◌+◌, ◌*◌, ◌/◌, nat_lt, if◌then◌else◌, List, [], ◌++◌, codes, decimal}
use Rattle.cap_survey.specs.declared.cell.Cell.{Cell}
use Rattle.cap_draw.specs.Columns.{column_of}
use Rattle.cap_draw.specs.declared.bars.Part.{Part}
use Rattle.cap_draw.specs.declared.bars.Part.TheVariants.{FailedRows, RefusedBlocks, Sums}
use Rattle.cap_draw.specs.declared.column.Column.{Column}
use Rattle.cap_draw.specs.declared.plot.Plot.{Plot}

-- the texts of the numbers below n, one after the other
unfoldable pub texts : (ℕ → List ℕ) → ℕ → List ℕ
texts text zero = []
texts text (suc n) = texts text n ++ text n

-- which blocks a column has
abbrev pub title : Column → List ℕ
title column = codes "'><title>" ++ decimal column.blocks ++ codes " blocks from " ++ decimal column.first ++ codes ": "

-- a column above the limit of ECMA-267 is black, with a mark at the upper edge of the plot
abbrev pub over_class : ℕ → List ℕ
over_class sum8 = if nat_lt 280 sum8 then codes " class='o'" else []

abbrev pub mark_path : ℕ → Column → List ℕ
mark_path scale column =
    codes "<path class='o' d='M" ++ decimal column.x ++ codes " " ++ decimal (440 * scale) ++ codes "h" ++ decimal column.width ++ codes "v-" ++ decimal (14 * scale)
    ++ codes "h-" ++ decimal column.width ++ codes "z'/>\n"

abbrev pub over_mark : ℕ → Column → List ℕ
over_mark scale column = if nat_lt 280 column.sum8 then mark_path scale column else []

-- The bar of a column: it is as high as the greatest sum of eight of its blocks.
abbrev pub bar : ℕ → Column → List ℕ
bar scale column =
    codes "<rect" ++ over_class column.sum8 ++ codes " x='" ++ decimal column.x ++ codes "' width='" ++ decimal column.width ++ codes "' height='" ++ decimal column.sum8
    ++ title column ++ codes "sum8 " ++ decimal column.sum8 ++ codes "</title></rect>\n" ++ over_mark scale column

-- The bar of a column in which a block has failed rows, as high as the most in one block, and a mark below it.
abbrev pub failed_rows_bar : Column → List ℕ
failed_rows_bar column =
    codes "<rect x='" ++ decimal column.x ++ codes "' width='" ++ decimal column.width ++ codes "' height='" ++ decimal column.failed
    ++ title column ++ codes "failed " ++ decimal column.failed ++ codes "</title></rect><path class='o' d='M" ++ decimal column.x
    ++ codes " 0h" ++ decimal column.width ++ codes "v-16h-" ++ decimal column.width ++ codes "z'/>\n"

-- the middle of a column
abbrev pub middle_of : Column → ℕ
middle_of column = column.x + column.width / 2

-- The mark of a column in which a block is refused.
abbrev pub triangle : Column → List ℕ
triangle column =
    codes "<path d='M" ++ decimal (middle_of column) ++ codes " 0l5 14h-10z" ++ title column ++ codes "refused " ++ decimal column.refused
    ++ codes "</title></path>\n"

-- what a part of the picture shows of a column
abbrev pub column_text : Part → ℕ → Column → List ℕ
column_text Sums scale column = bar scale column
column_text FailedRows scale column = if nat_lt 0 column.failed then failed_rows_bar column else []
column_text RefusedBlocks scale column = if nat_lt 0 column.refused then triangle column else []

-- the bytes that a part has of one column at most
abbrev pub most_of : Part → ℕ
most_of Sums = 200
most_of FailedRows = 170
most_of RefusedBlocks = 110

-- what a part shows of the first columns
abbrev pub columns_text : Part → List Cell → Plot → ℕ → List ℕ
columns_text part cells plot = texts (λ c. column_text part plot.scale (column_of cells plot c))
