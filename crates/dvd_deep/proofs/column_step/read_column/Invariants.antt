-- What each iteration of the loop in `read_column` keeps.
use Rattle.std.proofs.Common.{◌≡◌, ℕ, ◌<◌, length, get_or}
use Rattle.coding.specs.Product.{place}
use Rattle.dvd_deep.proofs.column_step.read_column.Given as goal

abbrev pub invariant-loop-i : goal.invariant-loop-i
invariant-loop-i l = record {
  size : length l.word ≡ 208;
  read : (k : ℕ) → k < l.i → get_or l.word k 0 ≡ place l.rows k l.j;
}
