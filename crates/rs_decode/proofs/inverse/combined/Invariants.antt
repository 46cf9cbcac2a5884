-- What each iteration of the loop in `combined` keeps.
use Rattle.std.proofs.Common.{get_or}
use Rattle.coding.specs.Field.{product}
use Rattle.coding.specs.Rows.{place}
use Rattle.rs_lanes.specs.Inner.Lanes.{HoldsLanes}
use Rattle.rs_decode.specs.Register.{total}
use Rattle.rs_decode.proofs.inverse.combined.Given as goal

-- the sum over the columns so far
abbrev pub invariant-loop-k : goal.invariant-loop-k
invariant-loop-k l = HoldsLanes 16 l.bytes (λ i. total l.k (λ k. product (place l.columns k i) (get_or l.sums k 0)))
