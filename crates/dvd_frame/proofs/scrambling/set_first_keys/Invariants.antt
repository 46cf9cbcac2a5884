-- What each iteration of the loop in `set_first_keys` keeps.
use Rattle.std.proofs.Common.{◌≡◌, ◌+◌, ◌*◌, take}
use Rattle.std.specs.Int.{to_be_bytes, w64}
use Rattle.dvd_frame.specs.Inner.Registers.{keys_from}
use Rattle.dvd_frame.proofs.scrambling.set_first_keys.Given as goal

abbrev pub invariant-loop-place : goal.invariant-loop-place
invariant-loop-place l = record {
  written : take (8 * l.place) l.keys ≡ keys_from l.preset 0 (8 * l.place);
  word : to_be_bytes w64 l.word ≡ keys_from l.preset (8 * l.place) 8;
  next : to_be_bytes w64 l.next ≡ keys_from l.preset (8 * l.place + 8) 8;
}
