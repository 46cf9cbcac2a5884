-- What holds of each survey: its numbers have room for more blocks than it counts, and its window is of eight.
use Rattle.std.specs.Prelude.{◌≡◌, ℕ, ◌*◌, ◌≤◌, length, None}
use Rattle.std.specs.declared.option.Option.{Option}
use Rattle.circular_buffer.specs.Buffer.{Buffer}
use Rattle.dvd_report.specs.declared.counts.Surveyed.{Surveyed}
use Rattle.dvd_report.specs.declared.counts.Totals.{Totals}

-- no sum is above 255 for each counted block, and no other count is above their number
pub record IsBounded (totals : Totals) : Type 0 where
  pub pi : totals.pi ≤ 255 * totals.blocks
  pub failed : totals.failed ≤ 255 * totals.blocks
  pub damaged : totals.damaged ≤ totals.blocks
  pub over : totals.over ≤ totals.blocks

-- sums within their bounds, a window of at most eight blocks, and a last block where any is counted
pub record IsSound (totals : Totals) (window : Buffer ℕ) (last : Option Surveyed) : Type 0 where
  pub bounded : IsBounded totals
  pub eight : window.capacity ≡ 8
  pub within : length window.items ≤ 8
  pub some : last ≡ None → totals.blocks ≡ 0
