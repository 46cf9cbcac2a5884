-- The proof of `powers` in src/points.rt.
use Rattle.rs_lanes.proofs.points.powers.Goals as goal

pub returns-clause-each : goal.returns-clause-each
returns-clause-each c = c.powers_of.ensures
