-- What each iteration of the loop in `next_mark` keeps.
use Rattle.std.proofs.Common.{◌≡◌, ◌≤◌, ◌-◌, if◌then◌else◌}
use Rattle.dvd_capture.proofs.MarkLists.{ArePassed}
use Rattle.dvd_capture.proofs.row_marks.next_mark.Given as goal

abbrev pub invariant-loop-j : goal.invariant-loop-j
invariant-loop-j l = record {
  byte : l.passed ≡ (if l.mark then 0 else 255);
  least : l.from ≤ l.j;
  before : ArePassed l.bits l.mark l.from l.j;
}

abbrev pub decreases-loop-j : goal.decreases-loop-j
decreases-loop-j l = 182 - l.j
