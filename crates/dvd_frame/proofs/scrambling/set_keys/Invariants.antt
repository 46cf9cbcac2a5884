-- What each iteration of the loop in `set_keys` keeps.
use Rattle.std.proofs.Common.{◌≡◌, ◌*◌, length, take}
use Rattle.dvd_frame.specs.Inner.Registers.{keys_from}
use Rattle.dvd_frame.proofs.scrambling.set_keys.Given as goal

abbrev pub invariant-loop-step : goal.invariant-loop-step
invariant-loop-step l = record {
  size : length l.keys ≡ 2048;
  written : take (32 * l.step) l.keys ≡ keys_from l.preset 0 (32 * l.step);
}
