-- What each iteration of the loop in `value_of` keeps.
use Rattle.std.proofs.Common.{◌≡◌, ◌<◌, ◌^◌, drop}
use Rattle.cap_survey.specs.Numbers.{with_digits}
use Rattle.cap_survey.proofs.number.value_of.Given as goal

abbrev pub invariant-loop-byte : goal.invariant-loop-byte
invariant-loop-byte l = record {
  same : with_digits l.value (drop l.byte-index l.digits) ≡ with_digits 0 l.digits;
  below : l.value < 10 ^ 18;
}
