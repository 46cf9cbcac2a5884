-- What each iteration of the loop in `answer_or_take_rows` keeps.
use Rattle.std.proofs.Common.{◌≡◌, ◌*◌, length, IsTrue}
use Rattle.dvd_capture.specs.Parts.{marks_rows, received_rows}
use Rattle.dvd_read.specs.Inner.Standing.{AreAnswersBefore, AreAsReceivedBefore, AreColumnsOf}
use Rattle.dvd_read.proofs.rows.answer_or_take_rows.Given as goal

-- the rows of the groups that are done are answered; where all are taken as they are, the columns have their bytes
abbrev pub invariant-loop-group : goal.invariant-loop-group
invariant-loop-group l = record {
  answers_size : length l.answers ≡ 208;
  size : length l.columns ≡ 182;
  answered : AreAnswersBefore (received_rows l.received) (marks_rows l.marks) l.answers (32 * l.group);
  taken : IsTrue l.are_taken → AreAsReceivedBefore (received_rows l.received) (marks_rows l.marks) l.answers (32 * l.group);
  copied : IsTrue l.are_taken → AreColumnsOf (received_rows l.received) l.columns (32 * l.group);
}
