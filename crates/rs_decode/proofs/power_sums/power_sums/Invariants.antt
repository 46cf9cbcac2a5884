-- What each iteration of the loop in `power_sums` keeps.
use Rattle.std.proofs.Common.{drop}
use Rattle.rs_code.specs.Inner.PowerSums.{power_sum}
use Rattle.rs_lanes.specs.Inner.Lanes.{HoldsLanes}
use Rattle.rs_decode.proofs.power_sums.power_sums.Given as goal

-- the power sums of the bytes from the place on
abbrev pub invariant-loop-i : goal.invariant-loop-i
invariant-loop-i l = HoldsLanes 16 l.sums (λ k. power_sum (drop l.i l.bytes) (drop l.i l.points) k)
