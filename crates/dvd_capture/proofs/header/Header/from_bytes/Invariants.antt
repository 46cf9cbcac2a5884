-- What each iteration of the loop in `Header::from_bytes` keeps.
use Rattle.std.proofs.Common.{◌≡◌, ℕ, ◌<◌, true, slice_index}
use Rattle.dvd_capture.specs.Header.{may_be_there}
use Rattle.dvd_capture.proofs.header.Header.from_bytes.Given as goal

abbrev pub invariant-loop-at : goal.invariant-loop-at
invariant-loop-at l = (place : ℕ) → place < l.at → may_be_there place (slice_index l.bytes place) ≡ true
