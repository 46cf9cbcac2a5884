-- What each iteration of the loop in `block_at` keeps.
use Rattle.std.proofs.Common.{◌≡◌, ◌+◌}
use Rattle.dvd_layout.proofs.Blocks.{blocks_before}
use Rattle.dvd_layout.proofs.zone.block_at.Given as goal

abbrev pub invariant-loop-zone : goal.invariant-loop-zone
invariant-loop-zone l = blocks_before l.zones l.zone-index + l.left ≡ l.k
