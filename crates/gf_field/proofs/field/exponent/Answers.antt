-- The proof of `exponent` in src/field.rt.
use Rattle.std.proofs.Common.{arith}
use Rattle.gf_field.proofs.Logarithms.{LOGARITHMS-below, LOGARITHMS-reach}
use Rattle.gf_field.proofs.field.exponent.Goals as goal

pub returns-clause-below : goal.returns-clause-below
returns-clause-below c = LOGARITHMS-below c.args.a (omega arith) c.requires

pub returns-clause-reaches : goal.returns-clause-reaches
returns-clause-reaches c = LOGARITHMS-reach c.args.a (omega arith) c.requires
