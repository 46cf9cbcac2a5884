-- What each iteration of the loop in `get_rows` keeps.
use Rattle.std.proofs.Common.{◌≡◌, ℕ, ◌+◌, ◌*◌, ◌<◌, length, get_or}
use Rattle.coding.specs.Product.{place}
use Rattle.dvd_block.proofs.block.get_rows.Given as goal

abbrev pub invariant-loop-q : goal.invariant-loop-q
invariant-loop-q l = record {
  size : length l.frame ≡ 2064;
  got : (q p : ℕ) → q < l.q → p < 172 → get_or l.frame (172 * q + p) 0 ≡ place l.rows q p;
}
