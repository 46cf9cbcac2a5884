-- What each iteration of the loop in `read_places` keeps.
use Rattle.std.proofs.Common.{◌≡◌, ℕ, ◌<◌, ◌≤◌, length}
use Rattle.coding.specs.Field.{alpha, plus, product, power}
use Rattle.coding.specs.Rows.{line, place}
use Rattle.rs_lanes.specs.Inner.Lanes.{HasLanes}
use Rattle.rs_lanes.specs.Inner.Thirds.{exponent_at}
use Rattle.rs_lanes.proofs.fold3.read_places.Given as goal

-- the values before this one went a step, where they are wanted
abbrev pub invariant-loop-m : goal.invariant-loop-m
invariant-loop-m l = record {
  size : length l.values ≡ 5;
  steps : (m : ℕ) → m < l.m → exponent_at l.i m < l.count
      → HasLanes (line l.values m) (λ j. plus (product (power alpha (exponent_at l.i m)) (place l.initial.values m j)) (place l.next m j));
  above : (m : ℕ) → l.m ≤ m → line l.values m ≡ line l.initial.values m;
  bytes : (m j : ℕ) → m < l.m → j < 32 → place l.next m j < 256;
}
