-- The proof of `products` in src/gf_tables.rt.
use Rattle.std.proofs.Common.{arith}
use Rattle.rs_lanes.proofs.FactorLemmas.{IsTable-products}
use Rattle.rs_lanes.proofs.gf_tables.products.Goals as goal

pub returns : goal.returns
returns c = IsTable-products c.args.factor _ _ (omega (arith, c.ranges.factor.fits)) c.bytes_of.ensures c.bytes_of-2.ensures
