-- What each iteration of the loop in `product_of_factors` keeps.
use Rattle.std.proofs.Common.{◌≡◌}
use Rattle.arrayvec.specs.ArrayVec.{array_vec_len}
use Rattle.coding.specs.Field.{alpha, power}
use Rattle.rs_code.specs.Polynomials.{HasRoots}
use Rattle.rs_code.proofs.division.product_of_factors.Given as goal

-- as many roots as turns, and the next root at hand
abbrev pub invariant-loop-k : goal.invariant-loop-k
invariant-loop-k l = record {
  root_is : l.root ≡ power alpha l._k;
  degree : array_vec_len l.coefficients ≡ l._k;
  roots : HasRoots l._k l.coefficients.items;
}
