-- The proof of `add_columns` in src/patches.rt.
use Rattle.std.proofs.Common.{ℕ, refl, ap, sym, ◌∙◌}
use Rattle.coding.specs.Field.{plus, product}
use Rattle.coding.specs.Rows.{place}
use Rattle.gf_field.proofs.FieldLaws.{plus-assoc, plus-zero}
use Rattle.rs_decode.specs.Register.{total}
use Rattle.rs_decode.proofs.Totals.{total-more, total-none}
use Rattle.rs_decode.proofs.patches.add_columns.Goals as goal

pub loop-k-init : goal.loop-k-init
loop-k-init c = record {
  size = c.told-sums;
  added = λ i n from to below.
      let old = place c.args.sums.now i n in
      sym (ap (plus old) (total-none (λ k. product (place c.args.values.now k n) (place c.args.inverse.now.columns k i))) ∙ plus-zero old);
  below = λ i less. refl;
  above = λ i more. refl;
}

pub loop-k-preserved : goal.loop-k-preserved
loop-k-preserved c =
    let k = c.loop-k.k in
    let before = c.loop-k.invariant in
    let added = c.add_multiples.ensures in
    record {
      size = added.size;
      added = λ i n from to below.
          let term : ℕ → ℕ = λ m. product (place c.args.values.now m n) (place c.args.inverse.now.columns m i) in
          let old = place c.args.sums.now i n in
          added.added i n from to below
          ∙ ap (λ v. plus v (term k)) (before.added i n from to below)
          ∙ plus-assoc old (total k term) (term k) ∙ ap (plus old) (sym (total-more k term));
      below = λ i less. added.below i less ∙ before.below i less;
      above = λ i more. added.above i more ∙ before.above i more;
    }
