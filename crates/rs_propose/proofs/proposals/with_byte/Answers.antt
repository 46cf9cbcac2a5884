-- The proof of `with_byte` in src/proposals.rt.
use Rattle.std.proofs.Common.{◌-◌, ◌*◌, get_or, bit_xor, ap, ◌∙◌}
use Rattle.coding.specs.Field.{alpha, plus, product, power}
use Rattle.gf_field.proofs.FieldLaws.{product-comm}
use Rattle.rs_lanes.proofs.LaneLemmas.{HoldsLanes-zip2}
use Rattle.rs_decode.proofs.LaneSums.{power-lane}
use Rattle.rs_propose.proofs.proposals.with_byte.Goals as goal

pub returns-clause-size : goal.returns-clause-size
returns-clause-size c = (HoldsLanes-zip2 16 bit_xor c.args.sums c.mul_scalar.result c.fits-sums.0 c.mul_scalar.ensures.size).size

pub returns-clause-each : goal.returns-clause-each
returns-clause-each c = λ k below.
    let after = 181 - c.args.place in
    (HoldsLanes-zip2 16 bit_xor c.args.sums c.mul_scalar.result c.fits-sums.0 c.mul_scalar.ensures.size).each k below
    ∙ ap (plus (get_or c.args.sums k 0))
    (c.mul_scalar.ensures.each k below ∙ ap (λ p. product p c.args.byte) (c.powers.ensures.each k below) ∙ product-comm (power alpha (after * k)) c.args.byte
    ∙ ap (product c.args.byte) (power-lane after k))
