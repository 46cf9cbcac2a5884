-- The proof of `with_multiple` in src/lanes.rt.
use Rattle.std.proofs.Common.{get_or, ap, ◌∙◌}
use Rattle.coding.specs.Field.{plus}
use Rattle.rs_lanes.proofs.lanes.with_multiple.Goals as goal

pub returns-clause-size : goal.returns-clause-size
returns-clause-size c = c.xor.ensures.size

pub returns-clause-each : goal.returns-clause-each
returns-clause-each c = λ k below. c.xor.ensures.each k below ∙ ap (plus (get_or c.args.sum k 0)) (c.multiple.ensures.each k below)
