-- The proof of `inverses` in src/inverse.rt.
use Rattle.std.proofs.Common.{arith}
use Rattle.rs_decode.proofs.inverse.inverses.Goals as goal

pub returns-clause-bytes : goal.returns-clause-bytes
returns-clause-bytes c = λ i below. c.loop-i.invariant.bytes i (omega arith)
