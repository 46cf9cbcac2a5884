-- What each iteration of the loop in `take` keeps.
use Rattle.std.proofs.Common.{◌≡◌, ◌<◌, ◌≤◌, ◌+◌, ◌^◌, ℕ, List, ◌++◌, drop}
use Rattle.cap_survey.specs.Survey.{progress, reading_on}
use Rattle.cap_survey.proofs.text.Reading.take.Given as goal

abbrev pub invariant-loop-byte : goal.invariant-loop-byte
invariant-loop-byte l = record {
  same : (more : List ℕ) → reading_on l.initial.self (l.bytes ++ more) ≡ reading_on l.self (drop l.byte-index l.bytes ++ more);
  grows : progress l.initial.self + l.byte-index ≤ progress l.self;
  bound : 0 < l.byte-index → progress l.self < 2 ^ 30;
}
