-- What each iteration of the loop in `answer_row_group` keeps.
use Rattle.std.proofs.Common.{◌≡◌, ◌≤◌, ℕ, length}
use Rattle.coding.specs.Product.{line}
use Rattle.dvd_capture.specs.Parts.{marks_of_rows}
use Rattle.dvd_deep.specs.Rounds.{State}
use Rattle.dvd_deep.specs.Inner.Steps.{IsStepped}
use Rattle.dvd_deep.proofs.row_step.answer_row_group.Given as goal

-- the rows before have had their step, and the others have the values that were found
abbrev pub invariant-loop-i : goal.invariant-loop-i
invariant-loop-i l = record {
  height : length l.rows ≡ 208;
  marks_height : length l.marks ≡ 208;
  left : (k : ℕ) → l.i ≤ k → line l.rows k ≡ line l.fn.rows k;
  stepped : (state : State) → IsStepped state l.fn.rows (marks_of_rows l.fn.marks) l.fn.failed.marks l.start → IsStepped state l.rows (marks_of_rows l.marks) l.failed.marks l.i;
}
