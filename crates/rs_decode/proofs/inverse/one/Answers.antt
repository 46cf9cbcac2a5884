-- The proof of `one` in src/inverse.rt.
use Rattle.std.proofs.Common.{arith}
use Rattle.rs_decode.proofs.Inverses.{IsPolynomial-leading}
use Rattle.rs_decode.proofs.inverse.one.Goals as goal

pub returns-clause-polynomial : goal.returns-clause-polynomial
returns-clause-polynomial c = IsPolynomial-leading 1 (omega arith)
