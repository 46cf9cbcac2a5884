-- What each iteration of the loop in `mark_answered` keeps.
use Rattle.std.proofs.Common.{◌≡◌, ℕ, ◌<◌, true, length, get_or}
use Rattle.dvd_capture.specs.declared.parts.ColumnAnswer.{ColumnAnswer}
use Rattle.dvd_read.proofs.columns.mark_answered.Given as goal

-- the columns before are noted as answered, and all have their bytes
abbrev pub invariant-loop-column : goal.invariant-loop-column
invariant-loop-column l = record {
  size : length l.columns ≡ length l.initial.columns;
  answered : (j : ℕ) (d : ColumnAnswer) → j < l.column-index → (get_or l.columns j d).answered ≡ true;
  bytes : (j : ℕ) (d : ColumnAnswer) → (get_or l.columns j d).bytes ≡ (get_or l.initial.columns j d).bytes;
}
