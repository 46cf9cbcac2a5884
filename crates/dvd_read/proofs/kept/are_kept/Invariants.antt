-- What each iteration of the loop in `are_kept` keeps.
use Rattle.std.proofs.Common.{◌≡◌, ℕ, ◌*◌, ◌<◌, false, get_or}
use Rattle.dvd_read.specs.Inner.Standing.{IsRowKept}
use Rattle.dvd_read.proofs.kept.are_kept.Given as goal

-- the rows of the groups that are done failed or are kept
abbrev pub invariant-loop-group : goal.invariant-loop-group
invariant-loop-group l = (i : ℕ) → i < 32 * l.group → i < 208 → get_or l.failed i false ≡ false → IsRowKept l.answers l.columns i 0 182
