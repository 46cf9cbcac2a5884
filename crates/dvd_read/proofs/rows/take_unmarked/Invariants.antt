-- What each iteration of the loop in `take_unmarked` keeps.
use Rattle.std.proofs.Common.{ℕ, ◌+◌, ◌<◌, get_or}
use Rattle.coding.specs.Product.{line}
use Rattle.dvd_capture.specs.Answers.{marks_line}
use Rattle.dvd_capture.specs.Parts.{marks_rows, received_rows}
use Rattle.dvd_capture.specs.declared.parts.AnswerRow.{AnswerRow}
use Rattle.dvd_read.specs.Inner.Standing.{IsAsReceived}
use Rattle.dvd_read.proofs.rows.take_unmarked.Given as goal

-- the rows before are taken
abbrev pub invariant-loop-k : goal.invariant-loop-k
invariant-loop-k l =
    (k : ℕ) (d : AnswerRow) → k < l.k → IsAsReceived (line (received_rows l.received) (l.start + k)) (marks_line (marks_rows l.marks) (l.start + k)) (get_or l.piece k d)
