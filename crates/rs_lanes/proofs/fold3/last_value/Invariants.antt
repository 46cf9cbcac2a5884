-- What each iteration of the loop in `last_value` keeps.
use Rattle.std.proofs.Common.{take}
use Rattle.coding.specs.Field.{alpha, power}
use Rattle.coding.specs.Words.{value}
use Rattle.rs_lanes.specs.Inner.Lanes.{HasLanes}
use Rattle.rs_lanes.specs.Inner.Thirds.{folded, third}
use Rattle.rs_lanes.proofs.fold3.last_value.Given as goal

-- the value of the places that were read
abbrev pub invariant-loop-place : goal.invariant-loop-place
invariant-loop-place l = HasLanes l.value (λ j. value (take l.place (folded 17 (power (power alpha 15) 17) (third l.thirds 0 j) 4)) (power alpha 15))
