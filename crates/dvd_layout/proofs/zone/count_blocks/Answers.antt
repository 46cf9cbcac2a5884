-- The proof of `count_blocks` in src/zone.rt.
use Rattle.dvd_layout.proofs.Blocks.{zone-counted, zone-few}
use Rattle.dvd_layout.proofs.zone.count_blocks.Goals as goal

pub loop-zone-preserved : goal.loop-zone-preserved
loop-zone-preserved c = record {
  counted = zone-counted _ _ _ _ c.loop-zone-test.true c.loop-zone.invariant.counted;
  few = zone-few _ _ _ (c.requires.numbers c.loop-zone.zone-index _ c.loop-zone-test.true) c.loop-zone.invariant.few;
}
