-- The proof of `thirds_of` in src/fold3.rt.
use Rattle.std.proofs.Common.{ℕ, ◌<◌, [], ◌∷◌, get_or}
use Rattle.coding.specs.Rows.{line}
use Rattle.rs_lanes.specs.Inner.Lanes.{HasLanes}
use Rattle.rs_lanes.specs.Inner.Thirds.{third_byte}
use Rattle.rs_lanes.proofs.LaneLemmas.{byte_lane}
use Rattle.rs_lanes.proofs.ThirdLemmas.{third-zero, third-one, third-two, each_of_three}
use Rattle.rs_lanes.proofs.fold3.thirds_of.Goals as goal

pub returns-clause-thirds : goal.returns-clause-thirds
returns-clause-thirds c =
    let a : ℕ → ℕ = λ j. get_or c.args.a j 0 in
    let b : ℕ → ℕ = λ j. get_or c.args.b j 0 in
    let d : ℕ → ℕ = λ j. get_or c.args.c j 0 in
    let byte_a : (j : ℕ) → j < 32 → a j < 256 = byte_lane 32 c.args.a c.fits-a in
    let byte_b : (j : ℕ) → j < 32 → b j < 256 = byte_lane 32 c.args.b c.fits-b in
    let sum = c.xor-sum.ensures in
    let shared = c.mul_const-shared.ensures 0xD6 c.products.ensures in
    each_of_three (λ i. HasLanes (line (c.xor.result ∷ c.xor-3.result ∷ c.xor-5.result ∷ []) i) (λ j. third_byte i (a j) (b j) (d j)))
    (record {
      size = c.xor.ensures.size;
      each = λ j below. rw (c.xor.ensures.each j below, sum.each j below) (third-zero (a j) (b j) (d j) (byte_a j below) (byte_b j below));
    })
    (record {
      size = c.xor-3.ensures.size;
      each = λ j below.
          rw (c.xor-3.ensures.each j below, shared.each j below, sum.each j below, c.xor-2.ensures.each j below)
          (third-one (a j) (b j) (d j) (byte_a j below) (byte_b j below));
    })
    (record {
      size = c.xor-5.ensures.size;
      each = λ j below.
          rw (c.xor-5.ensures.each j below, shared.each j below, sum.each j below, c.xor-4.ensures.each j below)
          (third-two (a j) (b j) (d j) (byte_a j below) (byte_b j below));
    })
