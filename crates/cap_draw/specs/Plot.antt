-- How wide and how high the parts of a picture are.
use Rattle.std.specs.Prelude.{ℕ, ◌+◌, ◌*◌, ◌/◌, min, nat_le, if◌then◌else◌, List, length}
use Rattle.cap_survey.specs.Totals.{greatest_of, sum8_of}
use Rattle.cap_survey.specs.declared.cell.Cell.{Cell}
use Rattle.cap_draw.specs.declared.plot.Plot.{Plot}

-- the width of that many columns of whole units, together at least 1,000
abbrev pub plot_width : ℕ → ℕ
plot_width most = most * ((999 + most) / most)

-- PI error rows that are as high as one unit: the axis is 420 units high
abbrev pub scale_for : ℕ → ℕ
scale_for peak = if nat_le peak 420 then 1 else (if nat_le peak 840 then 2 else 4)

-- the plot of some blocks with at most `most` columns
abbrev pub plot_of : List Cell → ℕ → Plot
plot_of cells most = record { width = plot_width most; scale = scale_for (greatest_of sum8_of cells); columns = min (length cells) most }

-- where part k begins, if a whole is shared among `parts` parts
abbrev pub share : ℕ → ℕ → ℕ → ℕ
share k whole parts = k * whole / parts
