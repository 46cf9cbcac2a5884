-- What each iteration of the loop in `record_rows` keeps.
use Rattle.std.proofs.Common.{◌≡◌, ◌*◌, length, take}
use Rattle.dvd_block.proofs.block.record_rows.Given as goal
use Rattle.dvd_block.proofs.Recorded.{recorded}

abbrev pub invariant-loop-m : goal.invariant-loop-m
invariant-loop-m l = record {
  size : length l.bytes ≡ 37_856;
  prefix : take (182 * l.m) l.bytes ≡ recorded 0 l.m l.rows;
}
