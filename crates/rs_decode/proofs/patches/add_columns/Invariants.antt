-- What each iteration of the loop in `add_columns` keeps.
use Rattle.std.proofs.Common.{◌≡◌, ℕ, ◌+◌, ◌<◌, ◌≤◌, length}
use Rattle.coding.specs.Field.{plus, product}
use Rattle.coding.specs.Rows.{line, place}
use Rattle.rs_decode.specs.Register.{total}
use Rattle.rs_decode.proofs.patches.add_columns.Given as goal

-- the sums over the columns so far are added
abbrev pub invariant-loop-k : goal.invariant-loop-k
invariant-loop-k l = record {
  size : length l.sums ≡ 16;
  added : (i n : ℕ) → l.first ≤ i → i < l.first + 8 → n < 32
      → place l.sums i n ≡ plus (place l.initial.sums i n) (total l.k (λ k. product (place l.values k n) (place l.inverse.columns k i)));
  below : (i : ℕ) → i < l.first → line l.sums i ≡ line l.initial.sums i;
  above : (i : ℕ) → l.first + 8 ≤ i → line l.sums i ≡ line l.initial.sums i;
}
