-- The picture of a survey, as an SVG file.
use Rattle.std.specs.Prelude.{ℕ, Bool, List, ◌++◌}
use Rattle.cap_survey.specs.declared.cell.Cell.{Cell}
use Rattle.cap_draw.specs.Axes.{block_axis, limit_line, lower_frame, marks_frame, band_line, plot_frame, row_lines}
use Rattle.cap_draw.specs.Bars.{columns_text}
use Rattle.cap_draw.specs.Plot.{plot_of}
use Rattle.cap_draw.specs.Words.{head, legend, totals_text}
use Rattle.cap_draw.specs.declared.bars.Part.TheVariants.{FailedRows, RefusedBlocks, Sums}
use Rattle.cap_draw.specs.declared.plot.Plot.{Plot}

-- the heading, the totals, and the plot of sums with its axes
unfoldable pub upper_part : List Cell → Bool → Plot → List ℕ
upper_part cells closed plot =
    head plot.width ++ totals_text cells plot.columns closed ++ row_lines plot 7 ++ plot_frame plot ++ columns_text Sums cells plot plot.columns ++ limit_line plot
    ++ block_axis cells plot

-- the bands of failed rows and of refused blocks, and the legend
unfoldable pub lower_part : List Cell → Plot → List ℕ
lower_part cells plot =
    lower_frame plot ++ columns_text FailedRows cells plot plot.columns ++ marks_frame plot ++ columns_text RefusedBlocks cells plot plot.columns ++ band_line plot ++ legend

-- The picture of some blocks in at most `most` columns. Where the line of totals is missing, the survey is cut.
unfoldable pub picture : List Cell → Bool → ℕ → List ℕ
picture cells closed most = upper_part cells closed (plot_of cells most) ++ lower_part cells (plot_of cells most)
