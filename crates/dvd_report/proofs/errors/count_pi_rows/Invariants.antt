-- What each iteration of the loop in `count_pi_rows` keeps.
use Rattle.std.proofs.Common.{◌≡◌, ◌≤◌, count_by}
use Rattle.std.specs.List.{range_with_len}
use Rattle.coding.specs.Product.{line}
use Rattle.dvd_capture.specs.Answers.{marks_line}
use Rattle.dvd_capture.specs.Works.{marks_of_work, rows_of}
use Rattle.dvd_report.specs.Survey.{has_pi_error}
use Rattle.dvd_report.proofs.errors.count_pi_rows.Given as goal

abbrev pub invariant-loop-i : goal.invariant-loop-i
invariant-loop-i l = record {
  counted : l.count ≡ count_by (λ k. has_pi_error (line (rows_of l.work) k) (marks_line (marks_of_work l.work) k)) (range_with_len 0 l.i);
  few : l.count ≤ l.i;
}
