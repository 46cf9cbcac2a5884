-- What each iteration of the loop in `put_block_ticks` keeps.
use Rattle.std.proofs.Common.{◌≡◌, ◌≤◌, ◌+◌, ◌*◌, ◌++◌, length, min}
use Rattle.cap_draw.specs.Axes.{block_tick}
use Rattle.cap_draw.specs.Bars.{texts}
use Rattle.cap_draw.specs.Plot.{share}
use Rattle.cap_draw.proofs.axes.put_block_ticks.Given as goal

abbrev pub invariant-loop-i : goal.invariant-loop-i
invariant-loop-i l = record {
  bytes : l.page ≡ l.initial.page ++ texts (λ i. block_tick l.blocks l.width (share i l.blocks (min l.blocks 5))) l.i;
  len : length l.page ≤ length l.initial.page + 100 * l.i;
}
