-- What each iteration of the loop in `are_codewords` keeps.
use Rattle.std.proofs.Common.{ℕ, ◌*◌, ◌<◌}
use Rattle.coding.specs.Product.{column}
use Rattle.coding.specs.Words.{IsCodeword}
use Rattle.dvd_read.specs.Parts.{answer_bytes}
use Rattle.dvd_read.proofs.columns.are_codewords.Given as goal

-- the columns of the groups that are done are codewords
abbrev pub invariant-loop-group : goal.invariant-loop-group
invariant-loop-group l = (j : ℕ) → j < 32 * l.group → j < 182 → IsCodeword 208 16 (column (answer_bytes l.answers) j)
