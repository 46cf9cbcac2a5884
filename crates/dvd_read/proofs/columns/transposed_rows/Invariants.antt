-- What each iteration of the loop in `transposed_rows` keeps.
use Rattle.std.proofs.Common.{◌≡◌, ℕ, ◌+◌, ◌<◌, length, get_or}
use Rattle.coding.specs.Product.{place}
use Rattle.dvd_capture.specs.declared.parts.ColumnAnswer.{ColumnAnswer}
use Rattle.dvd_read.proofs.columns.transposed_rows.Given as goal

-- the vectors before have the bytes of their columns
abbrev pub invariant-loop-j : goal.invariant-loop-j
invariant-loop-j l = record {
  size : length l.transposed ≡ 182;
  set : (k n : ℕ) (d : ColumnAnswer) → k < l.j → n < 32 → place l.transposed k n ≡ get_or (get_or l.columns k d).bytes (l.top + n) 0;
}
