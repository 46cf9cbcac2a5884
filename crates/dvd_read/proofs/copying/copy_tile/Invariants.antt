-- What each iteration of the loop in `copy_tile` keeps.
use Rattle.std.proofs.Common.{◌≡◌, ◌*◌, length}
use Rattle.dvd_read.specs.Inner.Standing.{AreCopied}
use Rattle.dvd_read.proofs.copying.copy_tile.Given as goal

-- the rows of the groups that are done are copied
abbrev pub invariant-loop-group : goal.invariant-loop-group
invariant-loop-group l = record { size : length l.piece ≡ length l.initial.piece; copied : AreCopied l.answers l.start l.piece (32 * l.group) }
