-- What each iteration of the loop in `read_block` keeps.
use Rattle.std.proofs.Common.{◌≡◌, ℕ, ◌<◌, length}
use Rattle.coding.specs.Product.{line}
use Rattle.dvd_capture.specs.Answers.{marks_line}
use Rattle.dvd_capture.specs.Works.{marks_of_work, rows_of}
use Rattle.dvd_capture.specs.Parts.{marks_of_rows}
use Rattle.dvd_deep.proofs.rounds.read_block.Given as goal

abbrev pub invariant-loop-i : goal.invariant-loop-i
invariant-loop-i l = record {
  height : length l.rows ≡ 208;
  marks_height : length l.marks ≡ 208;
  rows : (k : ℕ) → k < l.i → line l.rows k ≡ line (rows_of l.work) k;
  marks : (k : ℕ) → k < l.i → marks_line (marks_of_rows l.marks) k ≡ marks_line (marks_of_work l.work) k;
}
