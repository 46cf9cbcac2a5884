-- The proof of `without` in src/sums.rt.
use Rattle.std.proofs.Common.{◌≡◌, ◌+◌, ◌++◌, get_or, replicate, length-append, refl, ap, ◌∙◌, arith}
use Rattle.std.specs.List.{range_with_len}
use Rattle.std.specs.Simd.Lanes.{chunk, pick_l}
use Rattle.std.proofs.lemmas.List.{get_or_append_left}
use Rattle.std.proofs.lemmas.Simd.{get_or-chunk, pick_l-range_with_len}
use Rattle.coding.specs.Field.{plus}
use Rattle.gf_field.proofs.FieldLaws.{product-comm}
use Rattle.rs_lanes.proofs.LaneLemmas.{HoldsLanes-zip2}
use Rattle.rs_decode.proofs.sums.without.Goals as goal

pub returns-clause-each : goal.returns-clause-each
returns-clause-each c = λ k below.
    let sums = c.args.sums in
    let both = sums ++ replicate 16 0 in
    let next = pick_l 0 both (range_with_len 1 16) in
    let next_is : next ≡ chunk 1 16 both = pick_l-range_with_len 0 both 1 16 (omega (arith, length-append sums (replicate 16 0))) in
    let one_on : 1 + k ≡ k + 1 = omega arith in
    let at : get_or next k 0 ≡ get_or sums (k + 1) 0 =
    ap (λ xs. get_or xs k 0) next_is ∙ get_or-chunk 1 16 both k 0 (omega arith) ∙ ap (λ j. get_or both j 0) one_on ∙ get_or_append_left sums (replicate 16 0) 0 (k + 1) (omega arith) in
    (HoldsLanes-zip2 16 plus next c.mul_scalar.result refl c.mul_scalar.ensures.size).each k (omega arith)
    ∙ rw (at, c.mul_scalar.ensures.each k (omega arith)) (ap (plus (get_or sums (k + 1) 0)) (product-comm (get_or sums k 0) c.args.point))
