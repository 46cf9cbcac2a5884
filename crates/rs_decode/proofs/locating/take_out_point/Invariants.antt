-- What each iteration of the loop in `take_out_point` keeps.
use Rattle.std.proofs.Common.{◌≡◌, ℕ, ◌+◌, ◌<◌, ◌≤◌, get_or}
use Rattle.coding.specs.Field.{plus, product}
use Rattle.rs_decode.proofs.locating.take_out_point.Given as goal

-- one place before k and lower are the new sums; from there on nothing changed
abbrev pub invariant-loop-k : goal.invariant-loop-k
invariant-loop-k l = record {
  shifted : (j : ℕ) → j + 1 < l.k → get_or l.sums j 0 ≡ plus (get_or l.initial.sums (j + 1) 0) (product l.point (get_or l.initial.sums j 0));
  kept : (j : ℕ) → l.k ≤ j + 1 → get_or l.sums j 0 ≡ get_or l.initial.sums j 0;
}
