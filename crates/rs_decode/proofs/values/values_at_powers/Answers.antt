-- The proof of `values_at_powers` in src/values.rt.
use Rattle.std.proofs.Common.{◌-◌, ◌*◌, length, get_or, refl, sym, ap, ◌∙◌, arith}
use Rattle.std.proofs.lemmas.Simd.{get_or-replicate}
use Rattle.std.proofs.Math.ListN.{drop_of_length-le}
use Rattle.coding.specs.Field.{alpha, plus, product, power}
use Rattle.coding.specs.Words.{value}
use Rattle.rs_code.proofs.Values.{value-nil}
use Rattle.rs_decode.proofs.Powers.{value-next_term}
use Rattle.rs_decode.proofs.values.values_at_powers.Goals as goal

pub loop-exponent-init : goal.loop-exponent-init
loop-exponent-init c =
    let polynomial = c.args.polynomial.now in
    record {
      size = refl;
      values = λ k below.
          get_or-replicate 256 k 0 0 (omega arith)
          ∙ sym (ap (λ xs. value xs (power alpha k)) (drop_of_length-le polynomial (omega arith)) ∙ value-nil (power alpha k));
    }

pub loop-exponent-preserved : goal.loop-exponent-preserved
loop-exponent-preserved c =
    let polynomial = c.args.polynomial.now in
    let exponent = c.loop-exponent.exponent in
    let coefficient = get_or polynomial (length polynomial - 1 - exponent) 0 in
    let before = c.loop-exponent.invariant in
    record {
      size = c.add_term.ensures.size ∙ before.size;
      values = λ k below.
          c.add_term.ensures.added k (omega (arith, c.div_ceil.ensures))
          ∙ ap (λ v. plus v (product coefficient (power alpha (exponent * k)))) (before.values k below)
          ∙ sym (value-next_term polynomial exponent k (omega arith));
    }
