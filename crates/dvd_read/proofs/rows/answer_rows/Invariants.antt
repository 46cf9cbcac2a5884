-- What each iteration of the loop in `answer_rows` keeps.
use Rattle.std.proofs.Common.{◌≡◌, ℕ, ◌+◌, ◌*◌, ◌<◌, length, get_or}
use Rattle.coding.specs.Product.{line}
use Rattle.dvd_capture.specs.Answers.{IsAnswer, marks_line}
use Rattle.dvd_capture.specs.Parts.{marks_rows, received_rows}
use Rattle.dvd_capture.specs.declared.parts.AnswerRow.{AnswerRow}
use Rattle.dvd_read.proofs.rows.answer_rows.Given as goal

-- the rows of the groups that are done are answered
abbrev pub invariant-loop-group : goal.invariant-loop-group
invariant-loop-group l = record {
  size : length l.piece ≡ length l.initial.piece;
  answered : (k : ℕ) (d : AnswerRow) → k < 32 * l.group → k < length l.piece
      → IsAnswer (line (received_rows l.received) (l.start + k)) (marks_line (marks_rows l.marks) (l.start + k)) (get_or l.piece k d);
}
