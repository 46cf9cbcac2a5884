-- The proof of `value_at` in src/forney.rt.
use Rattle.std.proofs.Common.{◌<◌, length, get_or, sym, ap, ◌∙◌, arith}
use Rattle.coding.specs.Field.{plus, product}
use Rattle.rs_code.proofs.Values.{value-more, value-nil}
use Rattle.rs_decode.proofs.forney.value_at.Goals as goal

pub loop-coefficient-init : goal.loop-coefficient-init
loop-coefficient-init c = sym (value-nil c.args.x)

pub loop-coefficient-preserved : goal.loop-coefficient-preserved
loop-coefficient-preserved c =
    let polynomial = c.args.polynomial.now in
    let i = c.loop-coefficient.coefficient-index in
    let coefficient = get_or polynomial i 0 in
    let inside : i < length polynomial = omega arith in
    let byte : coefficient < 256 = omega (arith, c.type_inv.polynomial i) in
    ap (λ v. plus v coefficient) (c.mul.ensures ∙ ap (product c.args.x) c.loop-coefficient.invariant)
    ∙ sym (value-more polynomial i c.args.x inside byte)
