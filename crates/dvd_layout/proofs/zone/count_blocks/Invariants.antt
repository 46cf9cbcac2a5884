-- What each iteration of the loop in `count_blocks` keeps.
use Rattle.std.proofs.Common.{◌≡◌, ◌*◌, ◌≤◌, ◌^◌}
use Rattle.dvd_layout.proofs.Blocks.{blocks_before}
use Rattle.dvd_layout.proofs.zone.count_blocks.Given as goal

abbrev pub invariant-loop-zone : goal.invariant-loop-zone
invariant-loop-zone l = record { counted : l.blocks ≡ blocks_before l.zones l.zone-index; few : l.blocks ≤ 2 ^ 24 * l.zone-index }
