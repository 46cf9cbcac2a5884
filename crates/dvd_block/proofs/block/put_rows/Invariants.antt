-- What each iteration of the loop in `put_rows` keeps.
use Rattle.std.proofs.Common.{◌≡◌, ℕ, ◌*◌, ◌<◌, ◌≤◌, ◌++◌, take, drop}
use Rattle.coding.specs.Product.{line}
use Rattle.dvd_block.proofs.block.put_rows.Given as goal

abbrev pub invariant-loop-q : goal.invariant-loop-q
invariant-loop-q l = record {
  put : (q : ℕ) → q < l.q → line l.rows q ≡ take 172 (drop (172 * q) l.frame) ++ drop 172 (line l.fn.rows q);
  rest : (q : ℕ) → l.q ≤ q → line l.rows q ≡ line l.fn.rows q;
}
