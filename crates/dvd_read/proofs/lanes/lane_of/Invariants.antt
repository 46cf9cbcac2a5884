-- What each iteration of the loop in `lane_of` keeps.
use Rattle.std.proofs.Common.{◌≡◌, take}
use Rattle.coding.specs.Product.{column}
use Rattle.dvd_read.proofs.lanes.lane_of.Given as goal

-- the lanes of the values before
abbrev pub invariant-loop-k : goal.invariant-loop-k
invariant-loop-k g l = l.lanes.items ≡ take l.k (column l.values l.n)
