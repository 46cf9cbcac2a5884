-- What each iteration of the loop in `first_wrong` keeps.
use Rattle.std.proofs.Common.{◌≡◌, ℕ, ◌*◌, ◌<◌, true}
use Rattle.coding.specs.Nearest.{vanishes_at_all}
use Rattle.coding.specs.Product.{line}
use Rattle.coding.specs.TwoPass.{from_columns}
use Rattle.dvd_read.specs.Inner.Found.{words_of_columns}
use Rattle.dvd_read.proofs.columns.first_wrong.Given as goal

-- the rows of the groups that are done are right
abbrev pub invariant-loop-group : goal.invariant-loop-group
invariant-loop-group l = (k : ℕ) → k < 32 * l.group → k < 208 → vanishes_at_all 10 (line (from_columns (words_of_columns l.columns)) k) ≡ true
