-- What each iteration of the loop in `copy_answered` keeps.
use Rattle.std.proofs.Common.{◌≡◌, ◌*◌, false, length, map, take}
use Rattle.dvd_read.specs.Parts.{answer_word}
use Rattle.dvd_read.specs.Inner.Saved.{answered_block}
use Rattle.dvd_read.proofs.FrameFaults.{prefixes}
use Rattle.dvd_read.proofs.SavedFrames.{lacks_before}
use Rattle.dvd_read.proofs.rescue.copy_answered.Given as goal

abbrev pub invariant-loop-q : goal.invariant-loop-q
invariant-loop-q l = record {
  size : length l.frame ≡ 2064;
  prefix : take (172 * l.q) l.frame ≡ prefixes (answered_block (map answer_word l.answers)) l.f l.q;
  none : lacks_before (map answer_word l.answers) l.f l.q ≡ false;
}
