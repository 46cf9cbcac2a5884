-- What each iteration of the loop in `are_zeros` keeps.
use Rattle.std.proofs.Common.{◌≡◌, ℕ, ◌<◌, get_or}
use Rattle.dvdecc_c.proofs.general.are_zeros.Given as goal

-- the bytes so far are 0
abbrev pub invariant-loop-byte : goal.invariant-loop-byte
invariant-loop-byte l = (k : ℕ) → k < l.byte-index → get_or l.bytes k 0 ≡ 0
