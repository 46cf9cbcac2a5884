-- What each iteration of the loop in `put_diagonals` keeps.
use Rattle.std.proofs.Common.{◌≡◌, ℕ, ◌+◌, ◌*◌, ◌/◌, ◌%◌, ◌<◌, length, get_or}
use Rattle.cd_sector.proofs.rows.put_diagonals.Given as goal

-- the pairs so far are set
abbrev pub invariant-loop-n : goal.invariant-loop-n
invariant-loop-n l = record {
  size : length l.row ≡ 52;
  set : (k : ℕ) → k < 2 * l.n → get_or l.row k 0 ≡ get_or l.covered (l.from + 86 * (k / 2) + k % 2) 0;
}
