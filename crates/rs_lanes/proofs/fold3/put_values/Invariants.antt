-- What each iteration of the loop in `put_values` keeps.
use Rattle.std.proofs.Common.{◌≡◌, ◌≢◌, ℕ, ◌%◌, ◌<◌, length}
use Rattle.coding.specs.Rows.{line}
use Rattle.rs_lanes.specs.Inner.Thirds.{exponent_at}
use Rattle.rs_lanes.proofs.fold3.put_values.Given as goal

-- the values before this one are put, and the places of other thirds are as they were
abbrev pub invariant-loop-m : goal.invariant-loop-m
invariant-loop-m g l = record {
  size : length l.all ≡ g.row.R;
  set : (m : ℕ) → m < l.m → exponent_at l.i m < g.row.R → line l.all (exponent_at l.i m) ≡ line l.values m;
  others : (k : ℕ) → k % 3 ≢ l.i → line l.all k ≡ line l.initial.all k;
}
