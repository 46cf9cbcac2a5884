-- What each iteration of the loop in `answer_lost_rows` keeps.
use Rattle.dvd_capture.specs.Parts.{marks_rows, received_rows}
use Rattle.dvd_read.proofs.RowAnswers.{AreAnswersBefore}
use Rattle.dvd_read.proofs.rows.answer_lost_rows.Given as goal

-- the rows before are answered
abbrev pub invariant-loop-k : goal.invariant-loop-k
invariant-loop-k l = AreAnswersBefore (received_rows l.received) (marks_rows l.marks) l.start l.piece l.k
