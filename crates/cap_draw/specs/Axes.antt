-- The axes of a picture, and what frames its parts.
use Rattle.std.specs.Prelude.{ℕ, ◌+◌, ◌-◌, ◌*◌, ◌/◌, ◌==◌, min, nat_lt, Bool, if◌then◌else◌, List, [], ◌++◌, length, codes, decimal}
use Rattle.cap_survey.specs.Totals.{before_first}
use Rattle.cap_survey.specs.declared.cell.Cell.{Cell}
use Rattle.cap_draw.specs.Bars.{texts}
use Rattle.cap_draw.specs.Plot.{share}
use Rattle.cap_draw.specs.declared.plot.Plot.{Plot}

-- line i of the axis of rows, 70 units above the one before it, and its number
abbrev pub row_line : Plot → ℕ → List ℕ
row_line plot i =
    codes "<path class='g' d='M60 " ++ decimal (540 - 70 * i) ++ codes "h" ++ decimal (plot.width + 4) ++ codes "'/><text x='54' y='" ++ decimal (545 - 70 * i)
    ++ codes "' text-anchor='end'>" ++ decimal (70 * plot.scale * i) ++ codes "</text>\n"

abbrev pub row_lines : Plot → ℕ → List ℕ
row_lines plot = texts (row_line plot)

-- What opens the plot of sums: 440 units high. Within it heights are PI error rows, counted from its lower edge up.
abbrev pub plot_frame : Plot → List ℕ
plot_frame plot =
    codes "<svg x='64' y='100' width='" ++ decimal plot.width ++ codes "' height='440' viewBox='0 0 " ++ decimal plot.width ++ codes " " ++ decimal (440 * plot.scale)
    ++ codes "' preserveAspectRatio='none'><g class='u' transform='matrix(1 0 0 -1 0 " ++ decimal (440 * plot.scale) ++ codes ")'>\n"

-- the line at 280 rows, which closes the plot, and the two axes
abbrev pub limit_line : Plot → List ℕ
limit_line plot =
    codes "<path class='d' stroke-width='" ++ decimal (2 * plot.scale) ++ codes "' d='M0 280h" ++ decimal plot.width
    ++ codes "'/></g></svg>\n<path class='k' d='M64 540h" ++ decimal plot.width ++ codes "M64 100v440'/>\n"

-- where a block begins in the picture
abbrev pub block_x : ℕ → ℕ → ℕ → ℕ
block_x block blocks width = 64 + share block width blocks

abbrev pub is_on_layer_1 : Cell → Bool
is_on_layer_1 cell = cell.layer == 1

-- where layer 1 begins, if a block is on it
abbrev pub layer_at : ℕ → List ℕ
layer_at x =
    codes "<path class='k' stroke-dasharray='2 4' d='M" ++ decimal x ++ codes " 100v440'/><text x='" ++ decimal (x + 5) ++ codes "' y='132'>layer 1</text>\n"

abbrev pub layer_mark : List Cell → ℕ → List ℕ
layer_mark cells width =
    let first = before_first is_on_layer_1 cells in
    if nat_lt first (length cells) then layer_at (block_x first (length cells) width) else []

-- the tick at a block, with its number
abbrev pub tick_at : ℕ → ℕ → List ℕ
tick_at x block =
    codes "<path class='k' d='M" ++ decimal x ++ codes " 540v6'/><text x='" ++ decimal x ++ codes "' y='562' text-anchor='middle'>" ++ decimal block
    ++ codes "</text>\n"

abbrev pub block_tick : ℕ → ℕ → ℕ → List ℕ
block_tick blocks width block = tick_at (block_x block blocks width) block

-- the ticks at the ends of five parts, or of each block where there are fewer
abbrev pub block_ticks : ℕ → ℕ → List ℕ
block_ticks blocks width = texts (λ i. block_tick blocks width (share i blocks (min blocks 5))) (min blocks 5 + 1)

abbrev pub block_axis : List Cell → Plot → List ℕ
block_axis cells plot =
    layer_mark cells plot.width ++ (if length cells == 0 then [] else block_ticks (length cells) plot.width)
    ++ codes "<text x='" ++ decimal (64 + plot.width / 2) ++ codes "' y='580' text-anchor='middle'>block</text>\n"

-- What opens the band of failed rows: heights are failed rows, and there is room for a mark below.
abbrev pub lower_frame : Plot → List ℕ
lower_frame plot =
    codes "<svg x='64' y='592' width='" ++ decimal plot.width ++ codes "' height='56' viewBox='0 0 " ++ decimal plot.width
    ++ codes " 224' preserveAspectRatio='none'><g class='f' transform='matrix(1 0 0 -1 0 208)'>\n"

-- what closes it, and opens the band of refused blocks
abbrev pub marks_frame : Plot → List ℕ
marks_frame plot =
    codes "</g></svg>\n<path class='k' d='M64 644h" ++ decimal plot.width ++ codes "M64 592v52'/><text x='54' y='603' text-anchor='end'>208</text>"
    ++ codes "<text x='54' y='648' text-anchor='end'>0</text>\n<g class='o' transform='translate(64 656)'>\n"

-- what closes the band of refused blocks
abbrev pub band_line : Plot → List ℕ
band_line plot = codes "</g>\n<path class='k' d='M64 672h" ++ decimal plot.width ++ codes "'/>\n"
