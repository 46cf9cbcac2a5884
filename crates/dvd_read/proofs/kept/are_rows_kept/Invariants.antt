-- What each iteration of the loop in `are_rows_kept` keeps.
use Rattle.std.proofs.Common.{◌≡◌, ℕ, ◌+◌, ◌<◌, false, get_or}
use Rattle.dvd_read.specs.Inner.Standing.{IsRowKept}
use Rattle.dvd_read.proofs.kept.are_rows_kept.Given as goal

-- the rows before failed or are kept
abbrev pub invariant-loop-n : goal.invariant-loop-n
invariant-loop-n l = (m : ℕ) → m < l.n → get_or l.failed (l.top + m) false ≡ false → IsRowKept l.answers l.columns (l.top + m) 0 182
