-- What each iteration of the loop in `answer_copied` keeps.
use Rattle.std.proofs.Common.{◌≡◌, ℕ, ◌+◌, ◌*◌, ◌<◌, ◌≤◌, length, map, get_or}
use Rattle.coding.specs.Product.{column}
use Rattle.coding.specs.TwoPass.{column_answer}
use Rattle.dvd_capture.specs.declared.parts.ColumnAnswer.{ColumnAnswer}
use Rattle.dvd_read.specs.Parts.{answer_word, answer_bytes, column_word}
use Rattle.dvd_read.proofs.columns.answer_copied.Given as goal

-- the columns of the groups that are done are answered, and the others are copied still
abbrev pub invariant-loop-group : goal.invariant-loop-group
invariant-loop-group l = record {
  size : length l.piece ≡ length l.initial.piece;
  answered : (k : ℕ) (d : ColumnAnswer) → k < 32 * l.group → k < length l.piece
      → column_word (get_or l.piece k d) ≡ column_answer (map answer_word l.answers) (l.start + k);
  others : (k : ℕ) (d : ColumnAnswer) → 32 * l.group ≤ k → k < length l.piece
      → (get_or l.piece k d).bytes ≡ column (answer_bytes l.answers) (l.start + k);
}
