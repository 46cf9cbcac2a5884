-- What each iteration of the loop in `multiples_of` keeps.
use Rattle.std.proofs.Common.{◌≡◌, ℕ, ◌<◌, length, get_or}
use Rattle.coding.specs.Field.{shifted}
use Rattle.coding.specs.Rows.{place}
use Rattle.rs_decode.proofs.multiples.multiples_of.Given as goal

-- the multiples so far
abbrev pub invariant-loop-k : goal.invariant-loop-k
invariant-loop-k l = record {
  size : length l.multiples ≡ 8;
  set : (m i : ℕ) → m < l.k → i < 16 → place l.multiples m i ≡ shifted (get_or l.fn.lanes i 0) m;
  bytes : (m i : ℕ) → m < l.k → i < 16 → place l.multiples m i < 256;
}
