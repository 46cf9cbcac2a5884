-- What each iteration of the loop in `count_corrections` keeps.
use Rattle.std.proofs.Common.{◌≡◌, ◌≤◌, ◌*◌, take}
use Rattle.dvd_capture.specs.Works.{block_of, rows_of}
use Rattle.coding.specs.Found.{block_differences}
use Rattle.dvd_read.proofs.passes.count_corrections.Given as goal

abbrev pub invariant-loop-i : goal.invariant-loop-i
invariant-loop-i l = record {
  counted : l.count ≡ block_differences (take l.i (rows_of l.work)) (take l.i (block_of l.work));
  few : l.count ≤ 65536 * l.i;
}
