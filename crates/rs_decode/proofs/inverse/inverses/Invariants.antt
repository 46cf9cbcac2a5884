-- What each iteration of the loop in `inverses` keeps.
use Rattle.std.proofs.Common.{◌≡◌, ℕ, ◌<◌, length, get_or}
use Rattle.coding.specs.Field.{product}
use Rattle.rs_decode.proofs.inverse.inverses.Given as goal

-- the inverses so far
abbrev pub invariant-loop-i : goal.invariant-loop-i
invariant-loop-i l = record {
  size : length l.inverses ≡ 16;
  set : (m : ℕ) → m < l.i → product (get_or l.bytes m 0) (get_or l.inverses m 0) ≡ 1;
  bytes : (m : ℕ) → m < l.i → get_or l.inverses m 0 < 256;
}
