-- The proof of `product_of_factors` in src/division.rt.
use Rattle.std.proofs.Common.{◌≡◌, length, sym, ◌∙◌, ap, arith, rules}
use Rattle.rs_code.proofs.Generator.{HasRoots-start, HasRoots-more, refill-same}
use Rattle.rs_code.proofs.Values.{power-more}
use Rattle.rs_code.specs.Inner.Polynomials.{times_root}
use Rattle.coding.specs.Field.{alpha}
use Rattle.gf_field.proofs.FieldLaws.{power-zero}
use Rattle.rs_code.proofs.division.product_of_factors.Goals as goal

pub loop-k-init : goal.loop-k-init
loop-k-init c = record {
  root_is = sym (power-zero alpha);
  degree = search rules;
  roots = HasRoots-start c.new-coefficients.result.items;
}

pub loop-k-preserved : goal.loop-k-preserved
loop-k-preserved c =
    let power_is = power-more alpha c.loop-k._k in
    let padded = c.push.new.self.items in
    let after = c.multiply_by_root.new.coefficients in
    let multiplied : after ≡ times_root c.loop-k.coefficients.items c.loop-k.root = c.multiply_by_root.ensures c.loop-k.coefficients.items (c.deref_mut.ensures.value ∙ c.push.ensures.items) in
    let long : length after ≡ length padded = omega (arith, ap length c.deref_mut.ensures.value) in
    let kept = refill-same (length padded) padded after long in
    record {
      root_is = cc;
      degree = omega (arith, ap length kept);
      roots = HasRoots-more c.loop-k._k c.loop-k.root c.loop-k.coefficients.items _ c.loop-k.invariant.root_is (kept ∙ multiplied) c.loop-k.invariant.roots;
    }
