-- What each iteration of the loop in `values` keeps.
use Rattle.std.proofs.Common.{ℕ, ◌<◌, take}
use Rattle.coding.specs.Field.{alpha, power}
use Rattle.coding.specs.Words.{value}
use Rattle.coding.specs.Rows.{line}
use Rattle.rs_lanes.specs.Inner.Lanes.{HasLanes}
use Rattle.rs_lanes.specs.Inner.Thirds.{exponent_at, folded, third}
use Rattle.rs_lanes.proofs.fold3.values.Given as goal

-- the values of the places that were read
abbrev pub invariant-loop-place : goal.invariant-loop-place
invariant-loop-place l = (m : ℕ) → m < 5 → exponent_at l.i m < l.count
    → HasLanes (line l.values m)
    (λ j. value (take l.place (folded 17 (power (power alpha (exponent_at l.i m)) 17) (third l.thirds l.i j) 4)) (power alpha (exponent_at l.i m)))
