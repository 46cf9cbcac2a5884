-- What each iteration of the loop in `shortest` keeps.
use Rattle.std.proofs.Common.{◌≡◌, length}
use Rattle.rs_decode.proofs.Candidates.{IsAt}
use Rattle.rs_decode.proofs.register.shortest.Given as goal

-- the shortest register of the numbers so far, and the earlier one, shifted to fail at the place at hand
abbrev pub invariant-loop-place : goal.invariant-loop-place
invariant-loop-place l = record {
  lanes : length l.register.connections ≡ 32;
  is_at : IsAt l.place l.len l.register.taps l.earlier.taps l.seq l.register.connections l.earlier.connections;
}
