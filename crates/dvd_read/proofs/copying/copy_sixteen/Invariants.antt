-- What each iteration of the loop in `copy_sixteen` keeps.
use Rattle.std.proofs.Common.{◌≡◌, ℕ, ◌+◌, ◌<◌, ◌≤◌, length, get_or}
use Rattle.coding.specs.Product.{place}
use Rattle.dvd_capture.specs.declared.parts.ColumnAnswer.{ColumnAnswer}
use Rattle.dvd_read.proofs.copying.copy_sixteen.Given as goal

-- the columns before have their 32 bytes, and those above as they were; the others are as they were
abbrev pub invariant-loop-j : goal.invariant-loop-j
invariant-loop-j l = record {
  size : length l.piece ≡ 16;
  wide : (k : ℕ) (d : ColumnAnswer) → k < l.j → length (get_or l.piece k d).bytes ≡ 208;
  set : (k n : ℕ) (d : ColumnAnswer) → k < l.j → n < 32
      → get_or (get_or l.piece k d).bytes (l.top + n) 0 ≡ place l.transposed k n;
  below : (k i : ℕ) (d : ColumnAnswer) → k < l.j → i < l.top
      → get_or (get_or l.piece k d).bytes i 0 ≡ get_or (get_or l.fn.piece k d).bytes i 0;
  others : (k : ℕ) (d : ColumnAnswer) → l.j ≤ k → get_or l.piece k d ≡ get_or l.fn.piece k d;
}
