-- The proof of `folded_places` in src/fold5.rt.
use Rattle.std.proofs.Common.{◌≡◌, ℕ, ◌+◌, ◌-◌, ◌*◌, ◌/◌, ◌%◌, [], get_or, sym, subst, ◌<◌, ◌∙◌, ap, arith}
use Rattle.coding.specs.Field.{alpha, product, power}
use Rattle.gf_field.proofs.FieldLaws.{product-byte}
use Rattle.coding.specs.Rows.{place}
use Rattle.rs_lanes.specs.Inner.Thirds.{third}
use Rattle.rs_lanes.proofs.ThirdLemmas.{each_of_three, get_or-third, length-third, rotated_back}
use Rattle.rs_lanes.proofs.FifthLemmas.{folded-exponent}
use Rattle.rs_lanes.proofs.fold5.folded_places.Goals as goal

pub returns : goal.returns
returns c = λ m few. record {
  size = (c.at_fifth_roots.ensures.values m few).size;
  each = λ j below.
      let thirds = c.args.thirds.now in
      let i = c.args.i in
      let q = c.args.place in
      let word = third thirds i j in
      let stored : ℕ → ℕ = λ p. place (get_or thirds p []) i j in
      let rotated : (p rotations : ℕ) → p < 85 → stored p < 256
      → (85 * (i * (4 - p / 17)) + 85 * rotations) % 255 ≡ 0
      → stored p ≡ product (get_or word p 0) (power alpha (85 * rotations)) =
      λ p rotations inside byte whole.
      sym (ap (λ b. product b (power alpha (85 * rotations))) (get_or-third thirds i j p inside) ∙ rotated_back (stored p) (85 * (i * (4 - p / 17))) (85 * rotations) byte whole) in
      let all : (P : ℕ → Type 0) → P 0 → P 1 → P 2 → P i = λ P p0 p1 p2. each_of_three P p0 p1 p2 i c.requires.third in
      let bytes = c.at_fifth_roots.ensures.bytes j below in
      (c.at_fifth_roots.ensures.values m few).each j below
      ∙ folded-exponent i m word q _ _ _ _ _ (length-third thirds i j) c.requires.place
      (subst (λ b. b < 256) (sym (get_or-third thirds i j (68 + q) (omega arith))) (product-byte _ _))
      (rotated (68 + q) 0 (omega arith) bytes.0 (all (λ i. (85 * (i * (4 - (68 + q) / 17)) + 85 * 0) % 255 ≡ 0) (omega arith) (omega arith) (omega arith)))
      (rotated (51 + q) (2 * i) (omega arith) bytes.1 (all (λ i. (85 * (i * (4 - (51 + q) / 17)) + 85 * (2 * i)) % 255 ≡ 0) (omega arith) (omega arith) (omega arith)))
      (rotated (34 + q) (4 * i) (omega arith) bytes.2 (all (λ i. (85 * (i * (4 - (34 + q) / 17)) + 85 * (4 * i)) % 255 ≡ 0) (omega arith) (omega arith) (omega arith)))
      (rotated (17 + q) (6 * i) (omega arith) bytes.3 (all (λ i. (85 * (i * (4 - (17 + q) / 17)) + 85 * (6 * i)) % 255 ≡ 0) (omega arith) (omega arith) (omega arith)))
      (rotated q (8 * i) (omega arith) bytes.4 (all (λ i. (85 * (i * (4 - q / 17)) + 85 * (8 * i)) % 255 ≡ 0) (omega arith) (omega arith) (omega arith)));
}
