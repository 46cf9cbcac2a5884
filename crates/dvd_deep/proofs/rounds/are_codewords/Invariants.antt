-- What each iteration of the loop in `are_codewords` keeps.
use Rattle.std.proofs.Common.{◌≡◌, ℕ, ◌*◌, ◌<◌, true}
use Rattle.coding.specs.Nearest.{vanishes_at_all}
use Rattle.coding.specs.Product.{line}
use Rattle.dvd_deep.proofs.rounds.are_codewords.Given as goal

-- the rows of the groups that are done are codewords
abbrev pub invariant-loop-group : goal.invariant-loop-group
invariant-loop-group l = (k : ℕ) → k < 32 * l.group → k < 208 → vanishes_at_all 10 (line l.rows k) ≡ true
