-- The proof of `parity_of` in src/parity.rt.
use Rattle.std.proofs.Common.{◌≡◌, ℕ, sym, ap, ◌∙◌, arith}
use Rattle.std.proofs.lemmas.Simd.{length-replicate}
use Rattle.coding.specs.Field.{plus, product}
use Rattle.coding.specs.Rows.{line, place}
use Rattle.rs_lanes.proofs.LaneLemmas.{HasLanes-zeros}
use Rattle.rs_lanes.proofs.ParityLemmas.{combined, combined-zero, combined_more, combined_bytes, combined_values}
use Rattle.rs_lanes.proofs.parity.parity_of.Goals as goal

pub loop-k-init : goal.loop-k-init
loop-k-init g c = record {
  size = length-replicate g.row.R _;
  sums = λ i inside.
      let zeros = HasLanes-zeros g.row.R i inside in
      record { size = zeros.size; each = λ j below. zeros.each j below ∙ sym (combined-zero (line c.args.matrix.now i) (λ k. place c.args.values.now k j)) };
}

pub loop-k-preserved : goal.loop-k-preserved
loop-k-preserved g c =
    let k = c.loop-k.k in
    let values = c.args.values.now in
    let matrix = c.args.matrix.now in
    record {
      size = c.add_multiples.ensures.size;
      sums = λ i inside. record {
        size = (c.add_multiples.ensures.added i inside).size;
        each = λ j below.
            (c.add_multiples.ensures.added i inside).each j below
            ∙ ap (λ s. plus s (product (place values k j) (place matrix i k))) ((c.loop-k.invariant.sums i inside).each j below)
            ∙ sym (combined_more (line matrix i) (λ m. place values m j) k);
      };
    }

pub returns-clause-bytes : goal.returns-clause-bytes
returns-clause-bytes g c = λ j below.
    let matrix = c.args.matrix.now in
    let values : ℕ → ℕ = λ m. place c.args.values.now m j in
    let done : c.loop-k.k ≡ g.row.R = omega arith in
    combined_bytes g.row.R matrix values c.loop-k.parity j
    (λ i inside.
    (c.loop-k.invariant.sums i (omega (arith, inside, c.loop-k.invariant.size))).each j below ∙ ap (combined (line matrix i) values) done)

pub returns-clause-values : goal.returns-clause-values
returns-clause-values g c = λ is k j within below.
    let matrix = c.args.matrix.now in
    let values : ℕ → ℕ = λ m. place c.args.values.now m j in
    let done : c.loop-k.k ≡ g.row.R = omega arith in
    combined_values g.row.R matrix values c.loop-k.parity j k is c.loop-k.invariant.size within (c.requires k j within below)
    (λ i inside.
    (c.loop-k.invariant.sums i (omega (arith, inside, c.loop-k.invariant.size))).each j below ∙ ap (combined (line matrix i) values) done)
