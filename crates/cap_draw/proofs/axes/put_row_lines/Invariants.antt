-- What each iteration of the loop in `put_row_lines` keeps.
use Rattle.std.proofs.Common.{◌≡◌, ◌≤◌, ◌+◌, ◌*◌, ◌++◌, length}
use Rattle.cap_draw.specs.Axes.{row_lines}
use Rattle.cap_draw.proofs.axes.put_row_lines.Given as goal

abbrev pub invariant-loop-i : goal.invariant-loop-i
invariant-loop-i l = record {
  bytes : l.page ≡ l.initial.page ++ row_lines l.plot l.i;
  len : length l.page ≤ length l.initial.page + 120 * l.i;
}
