-- The proof of `multiples_of` in src/multiples.rt.
use Rattle.std.proofs.Common.{◌≡◌, ◌≢◌, ◌-◌, ◌<◌, suc, length, length-set, get_or, get_or-set_other, get_or-set_same, set, below_more, replicate, refl, sym, ap, subst, ◌∙◌, arith}
use Rattle.coding.specs.Field.{shift, shifted}
use Rattle.coding.specs.Rows.{place}
use Rattle.gf_field.proofs.FieldLaws.{product-byte}
use Rattle.gf_field.proofs.Tables.{product-alpha}
use Rattle.rs_lanes.proofs.LaneLemmas.{byte_lane}
use Rattle.rs_decode.proofs.multiples.multiples_of.Goals as goal

pub loop-k-init : goal.loop-k-init
unfolding shifted
loop-k-init c =
    let lanes = c.args.lanes in
    record {
      size = refl;
      set = λ m i first below.
          let none : 0 ≡ m = omega arith in
          subst (λ n. place (replicate 8 lanes) n i ≡ shifted (get_or lanes i 0) n) none refl;
      bytes = λ m i first below.
          let none : 0 ≡ m = omega arith in
          subst (λ n. place (replicate 8 lanes) n i < 256) none (byte_lane 16 lanes c.fits-lanes i below);
    }

pub loop-k-preserved : goal.loop-k-preserved
unfolding shifted
loop-k-preserved c =
    let k = c.loop-k.k in
    let multiples = c.loop-k.multiples in
    let next = c.mul_scalar.result in
    let before = c.loop-k.invariant in
    let inside : k < length multiples = omega (arith, before.size) in
    record {
      size = length-set multiples k next ∙ before.size;
      set = λ m i earlier below.
          let up : suc (k - 1) ≡ k = omega arith in
          below_more (λ m. place (set multiples k next) m i ≡ shifted (get_or c.args.lanes i 0) m) k
          (λ m under. let other : m ≢ k = omega arith in rw get_or-set_other (before.set m i under below))
          (rw get_or-set_same
          (c.mul_scalar.ensures.each i below ∙ product-alpha (place multiples (k - 1) i) (before.bytes (k - 1) i (omega arith) below)
          ∙ ap shift (before.set (k - 1) i (omega arith) below) ∙ ap (shifted (get_or c.args.lanes i 0)) up)) m earlier;
      bytes = λ m i earlier below.
          below_more (λ m. place (set multiples k next) m i < 256) k
          (λ m under. let other : m ≢ k = omega arith in rw get_or-set_other (before.bytes m i under below))
          (rw get_or-set_same (subst (λ v. v < 256) (sym (c.mul_scalar.ensures.each i below)) (product-byte (place multiples (k - 1) i) 2))) m earlier;
    }
