-- The proof of the law `no_cause_is_two_pass` in src/laws.rt.
use Rattle.coding.specs.TwoPass.{answers_of}
use Rattle.dvd_capture.proofs.Columns.{length-answers_of}
use Rattle.dvd_read.proofs.Outcomes.{no_cause-agrees}
use Rattle.dvd_read.proofs.laws.no_cause_is_two_pass.Goals as goal

pub returns : goal.returns
returns c received marks size marks_size none =
    no_cause-agrees (answers_of received marks) (length-answers_of received marks 208 size marks_size) none
