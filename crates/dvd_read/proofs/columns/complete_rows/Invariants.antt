-- What each iteration of the loop in `complete_rows` keeps.
use Rattle.std.proofs.Common.{◌≡◌, ℕ, ◌*◌, ◌<◌, map, Some}
use Rattle.coding.specs.Product.{column}
use Rattle.coding.specs.TwoPass.{column_answer}
use Rattle.dvd_read.specs.Parts.{AreSameAnswers, answer_bytes, answer_word}
use Rattle.dvd_read.proofs.columns.complete_rows.Given as goal

-- the columns of the groups that are done are completed
abbrev pub invariant-loop-group : goal.invariant-loop-group
invariant-loop-group l = record {
  same : AreSameAnswers l.fn.answers l.answers;
  completed : (j : ℕ) → j < 32 * l.group → j < 182 → column_answer (map answer_word l.answers) j ≡ Some (column (answer_bytes l.answers) j);
}
