-- What each iteration of the loop in `distance_exponent` keeps.
use Rattle.std.proofs.Common.{◌≡◌, ◌*◌, ◌≤◌, take}
use Rattle.coding.specs.Field.{alpha, power}
use Rattle.rs_decode.specs.Inner.Locator.{distances}
use Rattle.rs_decode.proofs.forney.distance_exponent.Given as goal

-- the distances so far, of which each has an exponent of at most 254
abbrev pub invariant-loop-other : goal.invariant-loop-other
invariant-loop-other l = record {
  small : l.exponent ≤ 254 * l.other-index;
  reaches : power alpha l.exponent ≡ distances (take l.other-index l.others) l.point;
}
