-- What each iteration of the loop in `rows_are_codewords` keeps.
use Rattle.std.proofs.Common.{ℕ, ◌*◌, ◌<◌}
use Rattle.coding.specs.Words.{IsCodeword}
use Rattle.coding.specs.Product.{line}
use Rattle.dvd_block.proofs.parity.rows_are_codewords.Given as goal

-- the rows of the groups that are done are codewords
abbrev pub invariant-loop-group : goal.invariant-loop-group
invariant-loop-group l = (i : ℕ) → i < 32 * l.group → i < 208 → IsCodeword 182 10 (line l.rows i)
