-- What each iteration of the loop in `value_at` keeps.
use Rattle.std.proofs.Common.{◌≡◌, take}
use Rattle.coding.specs.Words.{value}
use Rattle.rs_decode.proofs.forney.value_at.Given as goal

-- the value of the coefficients so far
abbrev pub invariant-loop-coefficient : goal.invariant-loop-coefficient
invariant-loop-coefficient l = l.sum ≡ value (take l.coefficient-index l.polynomial) l.x
