-- The proof of the law `two_pass_is_found` in src/laws.rt.
use Rattle.coding.specs.TwoPass.{answers_of}
use Rattle.dvd_capture.proofs.Columns.{length-answers_of}
use Rattle.dvd_read.proofs.Outcomes.{agrees-no_cause, found-agrees}
use Rattle.dvd_read.proofs.laws.two_pass_is_found.Goals as goal

pub returns : goal.returns
returns c received marks block size marks_size agrees =
    let answers_size = length-answers_of received marks 208 size marks_size in
    (agrees-no_cause (answers_of received marks) block answers_size agrees, found-agrees (answers_of received marks) block answers_size agrees)
