-- What each iteration of the loop in `answer_group` keeps.
use Rattle.std.proofs.Common.{◌≡◌, ℕ, ◌<◌, ◌≤◌, get_or}
use Rattle.coding.specs.Nearest.{near_of}
use Rattle.dvd_capture.specs.declared.parts.ColumnAnswer.{ColumnAnswer}
use Rattle.dvd_read.specs.Parts.{column_word}
use Rattle.dvd_read.proofs.columns.answer_group.Given as goal

-- the columns before are answered, and the others are as they were
abbrev pub invariant-loop-k : goal.invariant-loop-k
invariant-loop-k l = record {
  answered : (j : ℕ) (d : ColumnAnswer) → j < l.k → column_word (get_or l.piece j d) ≡ near_of 208 16 (get_or l.fn.piece j d).bytes l.erasures.marks;
  others : (j : ℕ) (d : ColumnAnswer) → l.k ≤ j → get_or l.piece j d ≡ get_or l.fn.piece j d;
}
