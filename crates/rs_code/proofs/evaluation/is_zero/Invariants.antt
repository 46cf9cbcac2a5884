-- What each iteration of the loop in `is_zero` keeps.
use Rattle.std.proofs.Common.{◌≡◌, ℕ, ◌<◌, get_or}
use Rattle.rs_code.proofs.evaluation.is_zero.Given as goal

-- the bytes so far are 0
abbrev pub invariant-loop-byte : goal.invariant-loop-byte
invariant-loop-byte l = (k : ℕ) → k < l.byte-index → get_or l.word k 0 ≡ 0
