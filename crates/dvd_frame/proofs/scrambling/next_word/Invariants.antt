-- What each iteration of the loop in `next_word` keeps.
use Rattle.std.proofs.Common.{◌≡◌, ℕ, ◌+◌, ◌<◌, get_or}
use Rattle.dvd_frame.specs.Scrambling.{window}
use Rattle.dvd_frame.specs.Scrambling.{scrambling_byte}
use Rattle.dvd_frame.proofs.scrambling.next_word.Given as goal

abbrev pub invariant-loop-byte : goal.invariant-loop-byte
invariant-loop-byte l = record {
  is_there : (preset k : ℕ) → l.fn.stream ≡ window preset k → l.stream ≡ window preset (k + l.byte-index);
  read : (preset k j : ℕ) → l.fn.stream ≡ window preset k → j < l.byte-index → get_or l.byte-items j 0 ≡ scrambling_byte preset (k + j);
}
