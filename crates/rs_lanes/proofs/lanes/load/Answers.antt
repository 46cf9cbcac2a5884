-- The proof of `load` in src/lanes.rt.
use Rattle.std.proofs.lemmas.Simd.{length-chunk, get_or-chunk}
use Rattle.rs_lanes.proofs.lanes.load.Goals as goal

pub returns-clause-size : goal.returns-clause-size
returns-clause-size c = length-chunk c.args.at 32 c.args.row.now c.requires

pub returns-clause-each : goal.returns-clause-each
returns-clause-each c = λ k below. get_or-chunk c.args.at 32 c.args.row.now k 0 below
