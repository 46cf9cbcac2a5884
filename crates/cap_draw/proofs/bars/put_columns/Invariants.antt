-- What each iteration of the loop in `put_columns` keeps.
use Rattle.std.proofs.Common.{◌≡◌, ◌≤◌, ◌+◌, ◌*◌, ◌++◌, length}
use Rattle.cap_draw.specs.Bars.{columns_text, most_of}
use Rattle.cap_draw.proofs.bars.put_columns.Given as goal

abbrev pub invariant-loop-c : goal.invariant-loop-c
invariant-loop-c l = record {
  bytes : l.page ≡ l.initial.page ++ columns_text l.part l.cells l.plot l.c;
  len : length l.page ≤ length l.initial.page + most_of l.part * l.c;
}
