-- What each iteration of the loop in `fill_failed` keeps.
use Rattle.std.proofs.Common.{◌≡◌, ℕ, ◌<◌, true, false, length, get_or, is_some}
use Rattle.coding.specs.Product.{line}
use Rattle.coding.specs.TwoPass.{from_columns}
use Rattle.dvd_capture.specs.declared.parts.AnswerRow.{AnswerRow}
use Rattle.dvd_read.specs.Inner.Found.{words_of_columns}
use Rattle.dvd_read.proofs.kept.fill_failed.Given as goal

-- the failed rows before are written, and those above are as they were; the others are as they were
abbrev pub invariant-loop-i : goal.invariant-loop-i
invariant-loop-i l = record {
  size : length l.answers ≡ length l.fn.answers;
  fixes : (k : ℕ) (d : AnswerRow) → (get_or l.answers k d).fix ≡ (get_or l.fn.answers k d).fix;
  answered : (k : ℕ) (d : AnswerRow) → is_some (get_or l.fn.answers k d).fix ≡ true → (get_or l.answers k d).bytes ≡ (get_or l.fn.answers k d).bytes;
  failed : (k : ℕ) (d : AnswerRow) → k < l.i → is_some (get_or l.fn.answers k d).fix ≡ false
      → (get_or l.answers k d).bytes ≡ line (from_columns (words_of_columns l.columns)) k;
}
