-- What each iteration of the loop in `new` keeps.
use Rattle.std.proofs.Common.{◌≡◌, ℕ, ◌<◌, length}
use Rattle.coding.specs.Rows.{line}
use Rattle.rs_decode.proofs.patches.Patches.new.Given as goal

-- the vectors before are stored
abbrev pub invariant-loop-i : goal.invariant-loop-i
invariant-loop-i g l = record {
  size : length l.patches.bytes ≡ 16;
  set : (i : ℕ) → i < l.i → line l.patches.bytes i ≡ line l.proposed i;
}
