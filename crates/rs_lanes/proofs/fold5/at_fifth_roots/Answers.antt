-- The proof of `at_fifth_roots` in src/fold5.rt.
use Rattle.std.proofs.Common.{ℕ, ◌*◌, ◌<◌, [], ◌∷◌, get_or}
use Rattle.coding.specs.Field.{alpha, power}
use Rattle.coding.specs.Words.{value}
use Rattle.rs_lanes.specs.Inner.Lanes.{HasLanes}
use Rattle.coding.specs.Rows.{line}
use Rattle.rs_lanes.proofs.FifthLemmas.{FifthSums, fifth_sums, each_of_five}
use Rattle.rs_lanes.proofs.LaneLemmas.{byte_lane}
use Rattle.rs_lanes.proofs.fold5.at_fifth_roots.Goals as goal

pub returns-clause-values : goal.returns-clause-values
returns-clause-values c =
    let y0 : ℕ → ℕ = λ j. get_or c.args.y0 j 0 in
    let y1 : ℕ → ℕ = λ j. get_or c.args.y1 j 0 in
    let y2 : ℕ → ℕ = λ j. get_or c.args.y2 j 0 in
    let y3 : ℕ → ℕ = λ j. get_or c.args.y3 j 0 in
    let y4 : ℕ → ℕ = λ j. get_or c.args.y4 j 0 in
    let values : ℕ → ℕ → ℕ = λ m j. value (y4 j ∷ y3 j ∷ y2 j ∷ y1 j ∷ y0 j ∷ []) (power alpha (51 * m)) in
    let sums : (j : ℕ) → j < 32 → FifthSums (y0 j) (y1 j) (y2 j) (y3 j) (y4 j) = λ j below.
    fifth_sums (y0 j) (y1 j) (y2 j) (y3 j) (y4 j)
    (byte_lane 32 c.args.y0 c.fits-y0 j below) (byte_lane 32 c.args.y1 c.fits-y1 j below) (byte_lane 32 c.args.y2 c.fits-y2 j below)
    (byte_lane 32 c.args.y3 c.fits-y3 j below) (byte_lane 32 c.args.y4 c.fits-y4 j below) in
    let exchanged = c.mul_const-exchanged.ensures 0xD7 c.products.ensures in
    let inner = c.mul_const.ensures 0xD7 c.products-2.ensures in
    let shared = c.mul_const-shared.ensures 0x92 c.products-3.ensures in
    let outer = c.mul_const-2.ensures 0x4F c.products-4.ensures in
    let middles = c.mul_const-3.ensures 0x98 c.products-5.ensures in
    let ends = c.xor-ends.ensures in
    let middle = c.xor-middle.ensures in
    let both = c.xor-both.ensures in
    let crossed = c.xor-crossed.ensures in
    let first : HasLanes c.xor-first.result (values 1) = record {
      size = c.xor-first.ensures.size;
      each = λ j below.
          rw (c.xor-first.ensures.each j below, c.xor-2.ensures.each j below, crossed.each j below, inner.each j below, c.xor.ensures.each j below, c.xor-3.ensures.each j below, shared.each j below, outer.each j below, both.each j below, ends.each j below, middle.each j below)
          (sums j below).one;
    } in
    let second : HasLanes c.xor-second.result (values 2) = record {
      size = c.xor-second.ensures.size;
      each = λ j below.
          rw (c.xor-second.ensures.each j below, c.xor-4.ensures.each j below, crossed.each j below, inner.each j below, c.xor.ensures.each j below, c.xor-5.ensures.each j below, shared.each j below, middles.each j below, both.each j below, ends.each j below, middle.each j below)
          (sums j below).two;
    } in
    each_of_five (λ m. HasLanes (line (c.xor-6.result ∷ c.xor-first.result ∷ c.xor-second.result ∷ c.xor-8.result ∷ c.xor-10.result ∷ []) m) (values m))
    (record {
      size = c.xor-6.ensures.size;
      each = λ j below. rw (c.xor-6.ensures.each j below, both.each j below, ends.each j below, middle.each j below) (sums j below).zero;
    })
    first
    second
    (record {
      size = c.xor-8.ensures.size;
      each = λ j below.
          rw (c.xor-8.ensures.each j below, c.xor-7.ensures.each j below, exchanged.each j below, both.each j below, second.each j below, ends.each j below, middle.each j below)
          (sums j below).three;
    })
    (record {
      size = c.xor-10.ensures.size;
      each = λ j below.
          rw (c.xor-10.ensures.each j below, c.xor-9.ensures.each j below, exchanged.each j below, both.each j below, first.each j below, ends.each j below, middle.each j below)
          (sums j below).four;
    })
