-- The proof of `times_distances` in src/inverse.rt.
use Rattle.std.proofs.Common.{◌∙◌, refl, arith}
use Rattle.rs_decode.proofs.Evaluator.{lanes-bytes}
use Rattle.rs_decode.proofs.Inverses.{IsPolynomial-none, IsPolynomial-next, IsPolynomial-all}
use Rattle.rs_decode.proofs.inverse.times_distances.Goals as goal

pub loop-other-init : goal.loop-other-init
loop-other-init c = record {
  size = c.requires;
  first = refl;
  is = λ count f few polynomial. IsPolynomial-none count c.args.lanes c.args.others.now f polynomial;
}

pub loop-other-preserved : goal.loop-other-preserved
loop-other-preserved c =
    let before = c.loop-other.invariant in
    record {
      size = c.times_distance-product.ensures.size;
      first = c.times_distance-product.ensures.first ∙ before.first;
      is = λ count f few polynomial.
          IsPolynomial-next count c.loop-other.other-index c.loop-other.product c.times_distance-product.result c.args.others.now f (omega arith) few
          c.times_distance-product.ensures.size (lanes-bytes c.loop-other.product c.loop-other.auto.product.1)
          (lanes-bytes c.times_distance-product.result c.type_inv.product.1) c.times_distance-product.ensures.first c.times_distance-product.ensures.each (before.is count f few polynomial);
    }

pub returns-clause-product : goal.returns-clause-product
returns-clause-product c = λ count f few polynomial.
    IsPolynomial-all count c.loop-other.other-index c.loop-other.product c.args.others.now f (omega arith) (omega arith) (c.loop-other.invariant.is count f few polynomial)

pub returns-clause-bytes : goal.returns-clause-bytes
returns-clause-bytes c = lanes-bytes c.loop-other.product c.loop-other.auto.product.1
