-- What each iteration of the loop in `first_missing` keeps.
use Rattle.std.proofs.Common.{◌≡◌, ℕ, ◌<◌, get_or, true}
use Rattle.dvd_capture.specs.declared.parts.ColumnAnswer.{ColumnAnswer}
use Rattle.dvd_read.proofs.columns.first_missing.Given as goal

abbrev pub invariant-loop-j : goal.invariant-loop-j
invariant-loop-j l = (k : ℕ) (d : ColumnAnswer) → k < l.j → (get_or l.columns k d).answered ≡ true
