-- What each iteration of the loop in `add_multiples` keeps.
use Rattle.std.proofs.Common.{◌≡◌, ℕ, ◌+◌, ◌<◌, ◌≤◌, length, get_or}
use Rattle.coding.specs.Field.{plus, product}
use Rattle.coding.specs.Rows.{line, place}
use Rattle.rs_decode.proofs.patches.add_multiples.Given as goal

-- the vectors before this one have their multiple
abbrev pub invariant-loop-k : goal.invariant-loop-k
invariant-loop-k l = record {
  size : length l.sums ≡ 16;
  added : (i n : ℕ) → l.first ≤ i → i < l.first + l.k → n < 32 → place l.sums i n ≡ plus (place l.initial.sums i n) (product (get_or l.lanes n 0) (get_or l.factors i 0));
  below : (i : ℕ) → i < l.first → line l.sums i ≡ line l.initial.sums i;
  above : (i : ℕ) → l.first + l.k ≤ i → line l.sums i ≡ line l.initial.sums i;
}
