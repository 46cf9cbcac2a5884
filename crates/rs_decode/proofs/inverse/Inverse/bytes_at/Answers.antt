-- The proof of `Inverse::bytes_at` in src/inverse.rt.
use Rattle.rs_decode.proofs.Inverses.{AreOnly-combined}
use Rattle.rs_decode.proofs.inverse.Inverse.bytes_at.Goals as goal

pub returns : goal.returns
returns c =
    let inverse = c.args.self.now in
    AreOnly-combined inverse.points.items c.args.sums.now c.combined.result c.first_lanes.result.items inverse.columns c.len-count.result c.len-count.ensures.value inverse.few c.requires
    inverse.inverse c.combined.ensures c.first_lanes.ensures
