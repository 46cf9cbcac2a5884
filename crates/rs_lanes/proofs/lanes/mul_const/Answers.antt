-- The proof of `mul_const` in src/lanes.rt.
use Rattle.std.proofs.Common.{get_or, ◌∙◌, arith}
use Rattle.rs_lanes.proofs.LaneLemmas.{byte_lane}
use Rattle.rs_lanes.proofs.Nibbles.{product-nibbles}
use Rattle.rs_lanes.proofs.lanes.mul_const.Goals as goal

pub returns : goal.returns
returns c = λ factor is. record {
  size = c.xor.ensures.size;
  each = λ k below.
      let fits = byte_lane 32 c.args.lanes c.fits-lanes k below in
      c.xor.ensures.each k below
      ∙ rw (c.by_low_nibble.ensures.each k below, c.by_high_nibble.ensures.each k below)
      (product-nibbles factor c.args.table.now (get_or c.args.lanes k 0) (omega arith) is);
}
