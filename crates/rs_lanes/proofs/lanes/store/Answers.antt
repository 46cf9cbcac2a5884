-- The proof of `store` in src/lanes.rt.
use Rattle.std.proofs.Common.{arith}
use Rattle.std.proofs.lemmas.Simd.{get_or-put_chunk_below, get_or-put_chunk_at, get_or-put_chunk_above}
use Rattle.rs_lanes.proofs.lanes.store.Goals as goal

pub returns-clause-set : goal.returns-clause-set
returns-clause-set c = λ k below. get_or-put_chunk_at c.args.at c.args.row.now c.args.lanes k 0 (omega (arith, c.fits-lanes.0)) (omega (arith, c.fits-lanes.0))

pub returns-clause-below : goal.returns-clause-below
returns-clause-below c = λ k below. get_or-put_chunk_below c.args.at c.args.row.now c.args.lanes k 0 below

pub returns-clause-above : goal.returns-clause-above
returns-clause-above c = λ k above. get_or-put_chunk_above c.args.at c.args.row.now c.args.lanes k 0 (omega (arith, c.fits-lanes.0))
