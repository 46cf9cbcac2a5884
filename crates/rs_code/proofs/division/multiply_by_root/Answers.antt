-- The proof of `multiply_by_root` in src/division.rt.
use Rattle.std.proofs.Common.{arith}
use Rattle.rs_code.proofs.Generator.{times_root-from_places}
use Rattle.rs_code.proofs.division.multiply_by_root.Goals as goal

pub returns : goal.returns
returns c = λ polynomial is.
    times_root-from_places polynomial c.args.coefficients.now c.loop-coefficient.coefficients c.args.root is (omega arith) (λ k below. c.loop-coefficient.invariant.multiplied k (omega arith))
