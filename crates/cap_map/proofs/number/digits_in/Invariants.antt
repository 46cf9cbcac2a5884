-- What each iteration of the loop in `digits_in` keeps.
use Rattle.std.proofs.Common.{◌≡◌, ◌<◌, ◌^◌, drop}
use Rattle.cap_map.specs.Numbers.{with_digits}
use Rattle.cap_map.proofs.number.digits_in.Given as goal

abbrev pub invariant-loop-byte : goal.invariant-loop-byte
invariant-loop-byte l = record {
  same : with_digits l.radix l.value (drop l.byte-index l.text) ≡ with_digits l.radix 0 l.text;
  below : l.value < 2 ^ 63;
}
