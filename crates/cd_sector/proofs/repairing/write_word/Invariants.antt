-- What each iteration of the loop in `write_word` keeps.
use Rattle.std.proofs.Common.{◌≡◌, length}
use Rattle.cd_sector.specs.Repair.{with_word_bytes}
use Rattle.cd_sector.proofs.repairing.write_word.Given as goal

abbrev pub invariant-loop-m : goal.invariant-loop-m
invariant-loop-m l = record {
  size : length l.sector ≡ 2352;
  word : l.sector ≡ with_word_bytes l.fn.sector l.word l.bytes l.m;
}
