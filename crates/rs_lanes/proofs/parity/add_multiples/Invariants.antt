-- What each iteration of the loop in `add_multiples` keeps.
use Rattle.std.proofs.Common.{◌≡◌, ℕ, ◌<◌, ◌≤◌, length, get_or}
use Rattle.coding.specs.Field.{plus, product}
use Rattle.coding.specs.Rows.{line, place}
use Rattle.rs_lanes.specs.Inner.Lanes.{HasLanes}
use Rattle.rs_lanes.proofs.parity.add_multiples.Given as goal

-- the places before this one have their multiple
abbrev pub invariant-loop-i : goal.invariant-loop-i
invariant-loop-i g l = record {
  size : length l.parity ≡ g.row.R;
  added : (i : ℕ) → i < l.i → HasLanes (line l.parity i) (λ j. plus (place l.initial.parity i j) (product (get_or l.value j 0) (place l.matrix i l.k)));
  above : (i : ℕ) → l.i ≤ i → line l.parity i ≡ line l.initial.parity i;
}
