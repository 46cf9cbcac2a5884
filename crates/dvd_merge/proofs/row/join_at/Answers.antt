-- The proof of `join_at` in src/row.rt.
use Rattle.dvd_merge.proofs.Rows.{AreJoined-lanes}
use Rattle.dvd_merge.proofs.row.join_at.Goals as goal

pub returns : goal.returns
returns c =
    AreJoined-lanes c.args.values.now c.args.codes.now c.args.bytes.now c.args.marks.now c.args.at
    c.load.result c.load-2.result c.load-3.result c.load-4.result _ _ c.store.new.row c.store-2.new.row
    c.load.ensures.each c.load-2.ensures.each c.load-3.ensures.each c.load-4.ensures.each c.joined.ensures
    c.store.ensures.set c.store-2.ensures.set c.store.ensures.below c.store-2.ensures.below c.store.ensures.above c.store-2.ensures.above
