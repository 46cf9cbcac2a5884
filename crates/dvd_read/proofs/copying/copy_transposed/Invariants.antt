-- What each iteration of the loop in `copy_transposed` keeps.
use Rattle.std.proofs.Common.{◌≡◌, ℕ, ◌+◌, ◌<◌, length, get_or}
use Rattle.coding.specs.Product.{place}
use Rattle.dvd_capture.specs.declared.parts.ColumnAnswer.{ColumnAnswer}
use Rattle.dvd_read.proofs.copying.copy_transposed.Given as goal

-- the columns before have the 32 bytes, and all have those before these still
abbrev pub invariant-loop-j : goal.invariant-loop-j
invariant-loop-j l = record {
  size : length l.columns ≡ 182;
  wide : (j : ℕ) (d : ColumnAnswer) → j < l.j → length (get_or l.columns j d).bytes ≡ 208;
  set : (j n : ℕ) (d : ColumnAnswer) → j < l.j → n < 32 → get_or (get_or l.columns j d).bytes (l.top + n) 0 ≡ place l.transposed j n;
  below : (j i : ℕ) (d : ColumnAnswer) → i < l.top → get_or (get_or l.columns j d).bytes i 0 ≡ get_or (get_or l.initial.columns j d).bytes i 0;
}
