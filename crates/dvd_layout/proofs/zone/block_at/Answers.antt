-- The proof of `block_at` in src/zone.rt.
use Rattle.dvd_layout.proofs.Blocks.{block-at, zone-passed}
use Rattle.dvd_layout.proofs.zone.block_at.Goals as goal

pub returns-then-left-zone : goal.returns-then-left-zone
returns-then-left-zone c =
    rw c.entry.ensures
    (block-at c.args.zones.now c.loop-zone.zone-index c.loop-zone.left c.args.k _ c.loop-zone-test.true c.if-left-zone.true c.loop-zone.invariant)

pub loop-zone-preserved : goal.loop-zone-preserved
loop-zone-preserved c = zone-passed _ _ _ _ _ c.loop-zone-test.true c.if-left-zone.false c.loop-zone.invariant
