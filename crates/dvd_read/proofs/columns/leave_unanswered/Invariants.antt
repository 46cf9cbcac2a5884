-- What each iteration of the loop in `leave_unanswered` keeps.
use Rattle.std.proofs.Common.{◌≡◌, ℕ, ◌<◌, false, get_or}
use Rattle.dvd_capture.specs.declared.parts.ColumnAnswer.{ColumnAnswer}
use Rattle.dvd_read.proofs.columns.leave_unanswered.Given as goal

-- the columns before have no answer
abbrev pub invariant-loop-column : goal.invariant-loop-column
invariant-loop-column l = (k : ℕ) (d : ColumnAnswer) → k < l.column-index → (get_or l.piece k d).answered ≡ false
