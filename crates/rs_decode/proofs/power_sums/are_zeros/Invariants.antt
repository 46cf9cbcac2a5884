-- What each iteration of the loop in `are_zeros` keeps.
use Rattle.std.proofs.Common.{◌≡◌, ℕ, ◌<◌, get_or}
use Rattle.rs_decode.proofs.power_sums.are_zeros.Given as goal

-- the numbers so far are 0
abbrev pub invariant-loop-number : goal.invariant-loop-number
invariant-loop-number l = (k : ℕ) → k < l.number-index → get_or l.numbers k 0 ≡ 0
