-- What each iteration of the loop in `fill_text` keeps.
use Rattle.std.proofs.Common.{◌≡◌, ◌*◌, length, map, take}
use Rattle.dvd_merge.specs.MarkedText.{marked_row}
use Rattle.dvd_merge.specs.Planes.{table_of_planes}
use Rattle.dvd_merge.proofs.record.fill_text.Given as goal
use Rattle.dvd_block.proofs.Recorded.{recorded}

abbrev pub invariant-loop-m : goal.invariant-loop-m
invariant-loop-m l = record {
  record_size : length l.record ≡ 205;
  size : length l.text ≡ 42_640;
  prefix : take (205 * l.m) l.text ≡ recorded 0 l.m (map marked_row (table_of_planes l.values l.codes));
}
