-- What each iteration of the loop in `rows_parity` keeps.
use Rattle.std.proofs.Common.{◌≡◌, ℕ, ◌*◌, ◌<◌, ◌≤◌, length, take}
use Rattle.coding.specs.Words.{IsEncoded}
use Rattle.coding.specs.Product.{line}
use Rattle.dvd_block.proofs.parity.rows_parity.Given as goal

-- the rows of the groups that are done have their parity, and all others are as they were
abbrev pub invariant-loop-group : goal.invariant-loop-group
invariant-loop-group l = record {
  size : length l.rows ≡ length l.initial.rows;
  set : (i : ℕ) → i < 32 * l.group → i < length l.rows → IsEncoded 182 10 (take 172 (line l.initial.rows i)) (line l.rows i);
  rest : (i : ℕ) → 32 * l.group ≤ i → line l.rows i ≡ line l.initial.rows i;
}
