-- What each iteration of the loop in `parity_of` keeps.
use Rattle.std.proofs.Common.{◌≡◌, ℕ, ◌<◌, length}
use Rattle.coding.specs.Rows.{line, place}
use Rattle.rs_lanes.specs.Inner.Lanes.{HasLanes}
use Rattle.rs_lanes.proofs.ParityLemmas.{combined}
use Rattle.rs_lanes.proofs.parity.parity_of.Given as goal

-- each byte is the sum of the values before this one, multiplied by their coefficients
abbrev pub invariant-loop-k : goal.invariant-loop-k
invariant-loop-k g l = record {
  size : length l.parity ≡ g.row.R;
  sums : (i : ℕ) → i < g.row.R → HasLanes (line l.parity i) (λ j. combined (line l.matrix i) (λ k. place l.values k j) l.k);
}
