-- The proof of `mul_scalar` in src/points.rt.
use Rattle.std.proofs.Common.{get_or, ◌∙◌, arith}
use Rattle.coding.specs.Field.{plus}
use Rattle.rs_lanes.proofs.LaneLemmas.{HoldsLanes-zip2, byte_lane}
use Rattle.rs_lanes.proofs.Nibbles.{product-nibbles}
use Rattle.rs_lanes.proofs.points.mul_scalar.Goals as goal

pub returns-clause-size : goal.returns-clause-size
returns-clause-size c = (HoldsLanes-zip2 16 plus c.at_low_nibbles.result c.at_high_nibbles.result c.at_low_nibbles.ensures.size c.at_high_nibbles.ensures.size).size

pub returns-clause-each : goal.returns-clause-each
returns-clause-each c = λ k below.
    let fits = byte_lane 16 c.args.lanes c.fits-lanes k below in
    (HoldsLanes-zip2 16 plus c.at_low_nibbles.result c.at_high_nibbles.result c.at_low_nibbles.ensures.size c.at_high_nibbles.ensures.size).each k below
    ∙ rw (c.at_low_nibbles.ensures.each k below, c.at_high_nibbles.ensures.each k below)
    (product-nibbles c.args.factor _ (get_or c.args.lanes k 0) (omega arith) c.products-table.ensures)
