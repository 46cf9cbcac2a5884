-- Ours: the columns between the passes, as whole lists.
use Rattle.std.specs.Prelude.{◌≡◌, ◌<◌, ◌≤◌, ◌+◌, ◌-◌, ℕ, Bool, true, false, is_none, length, List, map}
use Rattle.dvd_capture.specs.declared.parts.AnswerRow.{AnswerRow}
use Rattle.dvd_capture.specs.declared.parts.ColumnAnswer.{ColumnAnswer}
use Rattle.coding.specs.TwoPass.{from_columns}
use Rattle.coding.specs.Product.{line}
use Rattle.coding.specs.Nearest.{vanishes_at_all}
use Rattle.dvd_decoding.specs.Causes.{two_pass_cause}
use Rattle.coding.specs.Found.{block_found}
use Rattle.dvd_read.specs.Parts.{answer_word}

-- the words of columns
abbrev pub words_of_columns : List ColumnAnswer → List (List ℕ)
words_of_columns columns = map (λ (column : ColumnAnswer). column.bytes) columns

-- n rows of the columns' words from row `top` on vanish at the powers of alpha
abbrev pub AreRightFrom : List ColumnAnswer → ℕ → ℕ → Type 0
AreRightFrom columns top n = (k : ℕ) → k < n → vanishes_at_all 10 (line (from_columns (words_of_columns columns)) (top + k)) ≡ true

-- row i is the first of the 32 from row `top` on that doesn't
abbrev pub IsFirstWrongRow : List ColumnAnswer → ℕ → ℕ → Type 0
IsFirstWrongRow columns top i =
    (top ≤ i) × (i < top + 32) × AreRightFrom columns top (i - top) × (vanishes_at_all 10 (line (from_columns (words_of_columns columns)) i) ≡ false)

-- These are the columns and the rows' answers of a block, and the flag says whether two passes fixed it: then the
-- columns hold the block that was found.
pub record HoldAnswers (flag : Bool) (all : List ColumnAnswer) (answers : List AnswerRow) : Type 0 where
  pub columns : length all ≡ 182
  pub rows : length answers ≡ 208
  pub fixed : flag ≡ is_none (two_pass_cause (map answer_word answers))
  pub block : flag ≡ true → from_columns (words_of_columns all) ≡ block_found (map answer_word answers)
