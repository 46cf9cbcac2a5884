-- What each iteration of the loop in `count_differences` keeps.
use Rattle.std.proofs.Common.{◌≡◌, ◌≤◌, ◌*◌, take}
use Rattle.dvd_capture.specs.Parts.{received_rows}
use Rattle.coding.specs.TwoPass.{from_columns}
use Rattle.coding.specs.Found.{block_differences}
use Rattle.dvd_read.specs.Inner.Found.{words_of_columns}
use Rattle.dvd_read.proofs.passes.count_differences.Given as goal

abbrev pub invariant-loop-i : goal.invariant-loop-i
invariant-loop-i l = record {
  counted : l.count ≡ block_differences (take l.i (received_rows l.received)) (take l.i (from_columns (words_of_columns l.columns)));
  few : l.count ≤ 182 * l.i;
}
