-- The proof of `multiple` in src/lanes.rt.
use Rattle.rs_lanes.proofs.lanes.multiple.Goals as goal

pub returns-clause-size : goal.returns-clause-size
returns-clause-size c = (c.mul_const.ensures c.args.factor c.products.ensures).size

pub returns-clause-each : goal.returns-clause-each
returns-clause-each c = (c.mul_const.ensures c.args.factor c.products.ensures).each
